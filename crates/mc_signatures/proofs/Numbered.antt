-- Declared modes and their numbers, one behind another.
use Rattle.std.proofs.Common.{◌≡◌, ℕ, suc, ◌+◌, ◌<◌, ◌≤◌, List, [], ◌∷◌, ◌++◌, map, length, get_or, take, refl, sym, ap, ◌∙◌, subst, arith}
use Rattle.std.specs.Prelude.{Option}
use Rattle.std.proofs.lemmas.List.{take_all, length-take-le}
use Rattle.mc_program.specs.declared.builtin.Builtin.{Builtin}
use Rattle.mc_model.specs.declared.inst.ModeDecl.{ModeDecl}
use Rattle.mc_model.specs.declared.inst.Sig.{Sig}
use Rattle.mc_inst_table.specs.Written.{ModeTerm}
use Rattle.mc_signatures.specs.declared.written.WrittenMode.{WrittenMode}
use Rattle.mc_signatures.specs.WrittenModes.{PlainMode, plain_written}
use Rattle.mc_signatures.specs.Signatures.{IsDeclared, number_or_none, next_number, next_behind, AreDeclared, AreSignatures}
use Rattle.mc_signatures.specs.code.Numbering.{NumberedModes, all_behind, AreBefore}
use Rattle.mc_signatures.proofs.Following.{taken_more, each_means_on}

behind_more :
    (op : Option Builtin) (n : ℕ) (ws : List PlainMode) (w : PlainMode)
    → next_behind op n (ws ++ w ∷ []) ≡ next_number op (next_behind op n ws)
behind_more op n [] w = refl
behind_more op n (v ∷ ws) w = behind_more op (next_number op n) ws w

all_behind_more :
    (op : ℕ → Option Builtin) (p n q : ℕ) (rows : List (List PlainMode)) (ws : List PlainMode)
    → q ≡ p + length rows → all_behind op p n (rows ++ ws ∷ []) ≡ next_behind (op q) (all_behind op p n rows) ws
all_behind_more op p n q [] ws same =
    let one : p ≡ q = omega (arith, same) in
    ap (λ x. next_behind (op x) n ws) one
all_behind_more op p n q (us ∷ rows) ws same =
    let h : q ≡ p + suc (length rows) = same in
    let one : q ≡ suc p + length rows = omega (arith, h) in
    all_behind_more op (suc p) (next_behind (op p) n us) q rows ws one

length_mapped : {A B : Type 0} (f : A → B) (xs : List A) → length (map f xs) ≡ length xs
length_mapped f [] = refl
length_mapped f (x ∷ xs) = ap suc (length_mapped f xs)

module _ (Means : ModeTerm → (first last : ℕ) → Type 0) where
  -- THE MODES OF A PREDICATE

  declared_more :
      (op : Option Builtin) (n : ℕ) (ws : List PlainMode) (ms : List ModeDecl) (w : PlainMode) (m : ModeDecl)
      → AreDeclared Means op n ws ms → IsDeclared Means (number_or_none op (next_behind op n ws)) w m
      → AreDeclared Means op n (ws ++ w ∷ []) (ms ++ m ∷ [])
  declared_more op n [] [] w m are one = (one, tt)
  declared_more op n [] (x ∷ ms) w m are one = absurd are
  declared_more op n (v ∷ ws) [] w m are one = absurd are
  declared_more op n (v ∷ ws) (x ∷ ms) w m are one =
      (are.0, declared_more op (next_number op n) ws ms w m are.1 one)

  pub modes_more :
      (op : Option Builtin) (n : ℕ) (ws : List WrittenMode) (k : ℕ) (w : WrittenMode)
      (ms all : List ModeDecl) (m : ModeDecl) (next number behind : ℕ)
      → k < length ws → w ≡ get_or ws k w → all ≡ ms ++ m ∷ [] → number ≡ number_or_none op next
      → behind ≡ next_number op next
      → NumberedModes Means op n (map plain_written (take k ws)) ms next → IsDeclared Means number (plain_written w) m
      → NumberedModes Means op n (map plain_written (take (k + 1) ws)) all behind
  modes_more op n ws k w ms all m next number behind below at grown numbered goes_on are one =
      let before = map plain_written (take k ws) in
      let so : IsDeclared Means (number_or_none op (next_behind op n before)) (plain_written w) m =
      subst (λ x. IsDeclared Means x (plain_written w) m) (numbered ∙ ap (number_or_none op) are.1) one
      in
      let last : behind ≡ next_behind op n (before ++ plain_written w ∷ []) =
      goes_on ∙ ap (next_number op) are.1 ∙ sym (behind_more op n before (plain_written w))
      in
      subst (λ us. NumberedModes Means op n us all behind) (sym (taken_more plain_written ws k w below at)) (
        subst (λ us. AreDeclared Means op n (before ++ plain_written w ∷ []) us) (sym grown)
            (declared_more op n before ms (plain_written w) m are.0 so),
        last,
      )

  pub modes_all :
      (op : Option Builtin) (n : ℕ) (ws : List WrittenMode) (k : ℕ) (ms : List ModeDecl) (next : ℕ)
      → length ws ≤ k → NumberedModes Means op n (map plain_written (take k ws)) ms next
      → NumberedModes Means op n (map plain_written ws) ms next
  modes_all op n ws k ms next past are =
      subst (λ (us : List WrittenMode). NumberedModes Means op n (map plain_written us) ms next) (take_all k ws past) are

  -- THE SIGNATURES

  signatures_more :
      (op : ℕ → Option Builtin) (p n q : ℕ) (rows : List (List PlainMode)) (sigs : List Sig)
      (ws : List PlainMode) (s : Sig)
      → q ≡ p + length rows → AreSignatures Means op p n rows sigs → s.pred ≡ q
      → AreDeclared Means (op q) (all_behind op p n rows) ws s.modes
      → AreSignatures Means op p n (rows ++ ws ∷ []) (sigs ++ s ∷ [])
  signatures_more op p n q [] [] ws s same are is modes =
      let one : q ≡ p = omega (arith, same) in
      (is ∙ one, subst (λ x. AreDeclared Means (op x) n ws s.modes) one modes, tt)
  signatures_more op p n q [] (x ∷ sigs) ws s same are is modes = absurd are
  signatures_more op p n q (us ∷ rows) [] ws s same are is modes = absurd are
  signatures_more op p n q (us ∷ rows) (x ∷ sigs) ws s same are is modes =
      let h : q ≡ p + suc (length rows) = same in
      let one : q ≡ suc p + length rows = omega (arith, h) in (
        are.0,
        are.1,
        signatures_more op (suc p) (next_behind (op p) n us) q rows sigs ws s one are.2 is modes,
      )

  pub rows_more :
      (op : ℕ → Option Builtin) (rows : List (List WrittenMode)) (k : ℕ) (ws : List WrittenMode)
      (sigs all : List Sig) (s : Sig) (next behind : ℕ)
      → k < length rows → ws ≡ get_or rows k ws → all ≡ sigs ++ s ∷ [] → s.pred ≡ k
      → AreBefore Means op (map (map plain_written) (take k rows)) sigs next
      → NumberedModes Means (op k) next (map plain_written ws) s.modes behind
      → AreBefore Means op (map (map plain_written) (take (k + 1) rows)) all behind
  rows_more op rows k ws sigs all s next behind below at grown numbered are one =
      let before = map (map plain_written) (take k rows) in
      let row = map plain_written ws in
      let less : k ≤ length rows = omega (arith, below) in
      let all_before : length before ≡ k =
      length_mapped (map plain_written) (take k rows) ∙ length-take-le k rows less
      in
      let count : k ≡ 0 + length before = omega (arith, all_before) in
      let modes : AreDeclared Means (op k) (all_behind op 0 0 before) row s.modes =
      subst (λ x. AreDeclared Means (op k) x row s.modes) are.1 one.0
      in
      subst (λ us. AreBefore Means op us all behind) (sym (taken_more (map plain_written) rows k ws below at)) (
        subst (λ us. AreSignatures Means op 0 0 (before ++ row ∷ []) us) (sym grown)
            (signatures_more op 0 0 k before sigs row s count are.0 numbered modes),
        one.1 ∙ ap (λ x. next_behind (op k) x row) are.1 ∙ sym (all_behind_more op 0 0 k before row count),
      )

  pub rows_all :
      (op : ℕ → Option Builtin) (rows : List (List WrittenMode)) (k : ℕ) (sigs : List Sig) (next : ℕ)
      → length rows ≤ k → AreBefore Means op (map (map plain_written) (take k rows)) sigs next
      → AreSignatures Means op 0 0 (map (map plain_written) rows) sigs
  rows_all op rows k sigs next past are =
      subst (λ (us : List (List WrittenMode)). AreSignatures Means op 0 0 (map (map plain_written) us) sigs)
      (take_all k rows past) are.0

-- WHAT MEANS MORE: signatures stay what they are as more is known of what modes mean

module _ (M N : ModeTerm → (first last : ℕ) → Type 0) (f : (m : ModeTerm) (a b : ℕ) → M m a b → N m a b) where
  pub declared_on : (n : ℕ) (w : PlainMode) (m : ModeDecl) → IsDeclared M n w m → IsDeclared N n w m
  declared_on n w m d =
      record { proc = d.proc; insts = each_means_on M N f w.modes m.first m.last d.insts; det = d.det; at = d.at }

  pub modes_on : (op : Option Builtin) (n : ℕ) (ws : List PlainMode) (ms : List ModeDecl) → AreDeclared M op n ws ms → AreDeclared N op n ws ms
  modes_on op n [] [] are = tt
  modes_on op n [] (m ∷ ms) are = absurd are
  modes_on op n (w ∷ ws) [] are = absurd are
  modes_on op n (w ∷ ws) (m ∷ ms) are =
      (declared_on (number_or_none op n) w m are.0, modes_on op (next_number op n) ws ms are.1)

  pub signatures_on : (op : ℕ → Option Builtin) (p n : ℕ) (rows : List (List PlainMode)) (sigs : List Sig) → AreSignatures M op p n rows sigs → AreSignatures N op p n rows sigs
  signatures_on op p n [] [] are = tt
  signatures_on op p n [] (s ∷ sigs) are = absurd are
  signatures_on op p n (ws ∷ rows) [] are = absurd are
  signatures_on op p n (ws ∷ rows) (s ∷ sigs) are =
      (are.0, modes_on (op p) n ws s.modes are.1, signatures_on op (suc p) (next_behind (op p) n ws) rows sigs are.2)
