-- Modes one behind another.
use Rattle.std.proofs.Common.{◌≡◌, ℕ, zero, suc, ◌+◌, ◌-◌, ◌<◌, ◌≤◌, List, [], ◌∷◌, ◌++◌, map, replicate, length, get_or, drop, take, append_assoc, refl, sym, ap, ◌∙◌, arith, codes, Bor}
use Rattle.std.proofs.lemmas.List.{at_drop_more, take_more}
use Rattle.mc_term_data.specs.Plain.{plain_term, term_list}
use Rattle.mc_term_data.specs.Shapes.{operands}
use Rattle.mc_term_data.specs.declared.term.Term.{Term}
use Rattle.mc_decl_syntax.specs.declared.entry.Entry.{Entry}
use Rattle.mc_names.specs.declared.names.Named.{Named}
use Rattle.mc_names.specs.Linked.{Defined, Linked, plain_named}
use Rattle.mc_inst_table.specs.declared.inst.Mode.{Mode}
use Rattle.mc_inst_table.specs.Plain.{plain_mode}
use Rattle.mc_inst_table.specs.Written.{ModeTerm, written_mode}
use Rattle.mc_signatures.specs.declared.written.WrittenMode.{WrittenMode}
use Rattle.mc_signatures.specs.WrittenModes.{PlainMode, plain_written, Callable, moded, modes_of_arguments, written_modes, modes_by, modes_among}
use Rattle.mc_signatures.specs.code.ByName.{entry_behind}

pub map_more : {A B : Type 0} (f : A → B) (xs ys : List A) → map f (xs ++ ys) ≡ map f xs ++ map f ys
map_more f [] ys = refl
map_more f (x ∷ xs) ys = ap (λ zs. f x ∷ zs) (map_more f xs ys)

pub one_behind :
    (ms : List Mode) (m : Mode) → map plain_mode (ms ++ m ∷ []) ≡ map plain_mode ms ++ (plain_mode m ∷ [])
one_behind ms m = map_more plain_mode ms (m ∷ [])

pub written_behind :
    (ms : List WrittenMode) (m : WrittenMode)
    → map plain_written (ms ++ m ∷ []) ≡ map plain_written ms ++ (plain_written m ∷ [])
written_behind ms m = map_more plain_written ms (m ∷ [])

pub arguments_more :
    (l : Linked) (own : ℕ) (xs : List ModeTerm) (ts : List Term) (k : ℕ) (t : Term)
    → k < length ts → t ≡ get_or ts k t
    → xs ++ modes_of_arguments l own (term_list (map plain_term (drop k ts)))
    ≡ (xs ++ moded l own (operands (codes "::") (plain_term t))) ++ modes_of_arguments l own (term_list (map plain_term (drop (k + 1) ts)))
arguments_more l own xs ts k t below at =
    let rest = modes_of_arguments l own (term_list (map plain_term (drop (k + 1) ts))) in
    at_drop_more (λ us. xs ++ modes_of_arguments l own (term_list (map plain_term us))) ts k t below
    ∙ ap (λ (u : Term). xs ++ (moded l own (operands (codes "::") (plain_term u)) ++ rest)) (sym at)
    ∙ sym (append_assoc xs (moded l own (operands (codes "::") (plain_term t))) rest)

pub written_more :
    (l : Linked) (own : ℕ) (xs : List ModeTerm) (ts : List Term) (k : ℕ) (t : Term)
    → k < length ts → t ≡ get_or ts k t
    → xs ++ written_modes l own (term_list (map plain_term (drop k ts)))
    ≡ (xs ++ (written_mode l own [] (plain_term t) ∷ [])) ++ written_modes l own (term_list (map plain_term (drop (k + 1) ts)))
written_more l own xs ts k t below at =
    let rest = written_modes l own (term_list (map plain_term (drop (k + 1) ts))) in
    at_drop_more (λ us. xs ++ written_modes l own (term_list (map plain_term us))) ts k t below
    ∙ ap (λ (u : Term). xs ++ (written_mode l own [] (plain_term u) ∷ rest)) (sym at)
    ∙ sym (append_assoc xs (written_mode l own [] (plain_term t) ∷ []) rest)

pub among_more :
    (l : Linked) (own : ℕ) (x : Callable) (ms : List PlainMode) (es : List (Bor Entry)) (k : ℕ) (e : Bor Entry)
    → k < length es → e ≡ get_or es k e
    → ms ++ modes_among l own x (map entry_behind (drop k es))
    ≡ (ms ++ modes_by l own x (entry_behind e)) ++ modes_among l own x (map entry_behind (drop (k + 1) es))
among_more l own x ms es k e below at =
    let rest = modes_among l own x (map entry_behind (drop (k + 1) es)) in
    at_drop_more (λ us. ms ++ modes_among l own x (map entry_behind us)) es k e below
    ∙ ap (λ (u : Bor Entry). ms ++ (modes_by l own x (entry_behind u) ++ rest)) (sym at)
    ∙ sym (append_assoc ms (modes_by l own x (entry_behind e)) rest)

pub defaults_more :
    (xs ys : List ModeTerm) (n k : ℕ) (x : ModeTerm)
    → k < n → xs ++ (replicate (n - k) x ++ ys) ≡ (xs ++ x ∷ []) ++ (replicate (n - (k + 1)) x ++ ys)
defaults_more xs ys n k x below =
    let count : n - k ≡ suc (n - (k + 1)) = omega (arith, below) in
    ap (λ (m : ℕ). xs ++ (replicate m x ++ ys)) count
    ∙ sym (append_assoc xs (x ∷ []) (replicate (n - (k + 1)) x ++ ys))

pub defaults_last :
    (xs ys : List ModeTerm) (n k : ℕ) (x : ModeTerm)
    → n ≤ k → xs ++ (replicate (n - k) x ++ ys) ≡ xs ++ ys
defaults_last xs ys n k x past =
    let none : n - k ≡ 0 = omega (arith, past) in
    ap (λ (m : ℕ). xs ++ (replicate m x ++ ys)) none

pub mode_behind :
    (ms ns : List Mode) (m : Mode) (x : ModeTerm)
    → ns ≡ ms ++ m ∷ [] → plain_mode m ≡ x → map plain_mode ns ≡ map plain_mode ms ++ (x ∷ [])
mode_behind ms ns m x same is =
    ap (map plain_mode) same ∙ one_behind ms m ∙ ap (λ y. map plain_mode ms ++ (y ∷ [])) is

take_past : (ns : List Named) (k : ℕ) → length ns ≤ k → take k ns ≡ ns
take_past [] zero past = refl
take_past [] (suc k) past = refl
take_past (n ∷ ns) zero past = absurd (let h : suc (length ns) ≤ 0 = past in omega arith)
take_past (n ∷ ns) (suc k) past =
    let h : suc (length ns) ≤ suc k = past in
    let less : length ns ≤ k = omega arith in
    ap (λ us. n ∷ us) (take_past ns k less)

pub rows_more :
    (F : Named → List PlainMode) (rows all : List (List WrittenMode)) (row : List WrittenMode)
    (ns : List Named) (k : ℕ) (n : Named)
    → k < length ns → n ≡ get_or ns k n → all ≡ rows ++ row ∷ [] → map plain_written row ≡ F n
    → map (map plain_written) rows ≡ map F (take k ns) → map (map plain_written) all ≡ map F (take (k + 1) ns)
rows_more F rows all row ns k n below at same is before =
    ap (map (map plain_written)) same
    ∙ map_more (map plain_written) rows (row ∷ [])
    ∙ ap (λ us. us ++ (map plain_written row ∷ [])) before
    ∙ ap (λ us. map F (take k ns) ++ (us ∷ [])) is
    ∙ sym (map_more F (take k ns) (n ∷ []))
    ∙ ap (map F) (sym (take_more ns k n below ∙ ap (λ (m : Named). take k ns ++ m ∷ []) (sym at)))

named_each :
    (f : Defined → List PlainMode) (ns : List Named) → map (λ n. f (plain_named n)) ns ≡ map f (map plain_named ns)
named_each f [] = refl
named_each f (n ∷ ns) = ap (λ rest. f (plain_named n) ∷ rest) (named_each f ns)

pub rows_all :
    (f : Defined → List PlainMode) (rows : List (List WrittenMode)) (ns : List Named) (k : ℕ)
    → length ns ≤ k → map (map plain_written) rows ≡ map (λ n. f (plain_named n)) (take k ns)
    → map (map plain_written) rows ≡ map f (map plain_named ns)
rows_all f rows ns k past each =
    each ∙ ap (map (λ n. f (plain_named n))) (take_past ns k past) ∙ named_each f ns
