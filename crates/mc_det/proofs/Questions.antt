-- Which constructors an inst allows, by narrowing it.
use Rattle.std.proofs.Common.{◌≡◌, inl, inr, ⊎_elim, ℕ, List, [], ◌∷◌, map, Bool, true, false, not, nat_eq, ◌||◌, ◌&&◌, if◌then◌else◌, Option, Some, None, MatchOption, refl, sym, ap, ap₂, ◌∙◌}
use Rattle.std.specs.Cmp.Lexicographic.{pointwise, bytes_decides}
use Rattle.std.proofs.lemmas.Bool.{eqb-true, eq-eqb, and_parts, and_from, or_left, or_right, cases_Bool}
use Rattle.std.specs.List.{list_all}
use Rattle.mc_program.specs.Values.{Val}
use Rattle.mc_program.specs.Programs.{TypeTerm, int_type, char_type, string_type, state_type, variable_type, union_type, Source}
use Rattle.mc_program.specs.declared.builtin.Builtin.{Builtin}
use Rattle.mc_model.specs.Outcomes.{Outcome}
use Rattle.mc_model.specs.Scheduled.{Label, for_symbol, for_constant, Node, Arms, arm_then}
use Rattle.mc_model.specs.PlainGoals.{plain_arm, plain_label, arms_of}
use Rattle.mc_model.specs.Good.{System}
use Rattle.mc_model.specs.declared.sched.Arm.{Arm}
use Rattle.mc_procs.specs.Procedures.{PlainProcs, source_of, as_system}
use Rattle.mc_procs.proofs.Views.{plain_arm-open}
use Rattle.mc_det.specs.code.Symbols.{allows_one, is_for, arm_for, one_missed, another, one_allowed, union_of, Missed, Alone}
use Rattle.mc_model.specs.Insts.{Listed, InstNode, free, ground, unique, dead, bound, Graph, Lists, AllowsSymbol}
use Rattle.mc_accepted.specs.Determined.{lists_name, allows_name, has_arm, allowed_of, is_alone}
use Rattle.mc_insts.specs.Narrowed.{Narrowed}

module _ (P : Source) (s : ℕ) where
  abbrev is_named : Listed → Bool
  is_named l = pointwise nat_eq l.name (P.symbols s).name.bytes && nat_eq l.arity (P.symbols s).name.arity

  lists_named : (ls : List Listed) (Q : List ℕ → Type 0) → Lists P ls s Q → lists_name ls (P.symbols s).name ≡ true
  lists_named [] Q h = absurd h
  lists_named (l ∷ ls) Q h =
      ⊎_elim
      (λ a. or_left (is_named l) (lists_name ls (P.symbols s).name) (and_from (pointwise nat_eq l.name (P.symbols s).name.bytes) (nat_eq l.arity (P.symbols s).name.arity) ((bytes_decides l.name (P.symbols s).name.bytes).1 a.0) (eq-eqb l.arity (P.symbols s).name.arity a.1)))
      (λ a. or_right (is_named l) (lists_name ls (P.symbols s).name) (lists_named ls Q a)) h

  either_of : (t u : Bool) (R : Type 0) → (t ≡ true → R) → (u ≡ true → R) → (t || u) ≡ true → R
  either_of true u R f g h = f refl
  either_of false u R f g h = g h

  named_lists : (ls : List Listed) → lists_name ls (P.symbols s).name ≡ true → Lists P ls s (λ is. Unit {0})
  named_lists [] h = cc
  named_lists (l ∷ ls) h =
      either_of (is_named l) (lists_name ls (P.symbols s).name) (Lists P (l ∷ ls) s (λ is. Unit {0}))
      (λ e.
      let p = and_parts (pointwise nat_eq l.name (P.symbols s).name.bytes) (nat_eq l.arity (P.symbols s).name.arity) e in
      inl ((bytes_decides l.name (P.symbols s).name.bytes).0 p.0, eqb-true l.arity (P.symbols s).name.arity p.1, tt))
      (λ e. inr (named_lists ls e)) h

  allows_named : (N : InstNode) (i : ℕ) (Q : List ℕ → Type 0) → AllowsSymbol P N i s Q → allows_name N (P.symbols s).name ≡ true
  allows_named free i Q h = absurd h
  allows_named ground i Q h = refl
  allows_named unique i Q h = refl
  allows_named dead i Q h = refl
  allows_named (bound ls) i Q h = lists_named ls Q h

  named_allows : (N : InstNode) (i : ℕ) → allows_name N (P.symbols s).name ≡ true → AllowsSymbol P N i s (λ is. Unit {0})
  named_allows free i h = cc
  named_allows ground i h = tt
  named_allows unique i h = tt
  named_allows dead i h = tt
  named_allows (bound ls) i h = named_lists ls h

  narrowed_to_none : (G : Graph) (i : ℕ) → Narrowed P G i s None → false ≡ allows_name (G i) (P.symbols s).name
  narrowed_to_none G i n =
      ⊎_elim (λ (e : allows_name (G i) (P.symbols s).name ≡ true). absurd (n (named_allows (G i) i e))) (λ e. sym e)
      (cases_Bool (allows_name (G i) (P.symbols s).name))

  narrowed_to_some : (G : Graph) (i : ℕ) (row : List ℕ) → Narrowed P G i s (Some row) → true ≡ allows_name (G i) (P.symbols s).name
  narrowed_to_some G i row n = sym (allows_named (G i) i (λ is. is ≡ row) n)

  pub narrowed_tells : (G : Graph) (i : ℕ) (o : Option (List ℕ)) (b : Bool) → Narrowed P G i s o → MatchOption o (b ≡ false) (λ row. b ≡ true) → b ≡ allows_name (G i) (P.symbols s).name
  narrowed_tells G i None b n e = e ∙ narrowed_to_none G i n
  narrowed_tells G i (Some row) b n e = e ∙ narrowed_to_some G i row n

-- an arm for a symbol, by the table
module _ (S : System) (type : ℕ → TypeTerm) where
  first_arm : (s : ℕ) (l : Label) (n : Node) (arms : Arms) → has_arm S type s (arm_then l n arms) ≡ (is_for s l || has_arm S type s arms)
  first_arm s (for_symbol f) n arms = refl
  first_arm s (for_constant v) n arms = refl

  arm_tells : (s : ℕ) (arms : List Arm) → arm_for s arms ≡ has_arm S type s (arms_of (map plain_arm arms))
  arm_tells s [] = refl
  arm_tells s (a ∷ arms) =
      ap (λ b. is_for s (plain_label a.on) || b) (arm_tells s arms)
      ∙ ap (λ (p : Label × Node). is_for s p.0 || has_arm S type s (arms_of (map plain_arm arms))) (sym (plain_arm-open a))
      ∙ sym (first_arm s (plain_arm a).0 (plain_arm a).1 (arms_of (map plain_arm arms)))

either_not : (x r : Bool) → (not x || not r) ≡ not (x && r)
either_not true r = refl
either_not false r = refl

step_all : (a : Bool) (f g : ℕ → Bool) (s : ℕ) (rest : List ℕ) (m : Bool) → f s ≡ g s → m ≡ not (list_all g rest) → (a && not (f s) || m) ≡ not (list_all g (if a then s ∷ rest else rest))
step_all true f g s rest m e h = ap (λ x. not x || m) e ∙ ap (λ x. not (g s) || x) h ∙ either_not (g s) (list_all g rest)
step_all false f g s rest m e h = h

module _ (q : PlainProcs) (outcome : Builtin → List Val → Outcome) (type : ℕ → TypeTerm) (i : ℕ) where
  abbrev S : System
  S = as_system outcome q

  missed_tells : (arms : List Arm) (ss : List ℕ) → one_missed q i arms ss ≡ not (list_all (λ s. has_arm S type s (arms_of (map plain_arm arms))) (allowed_of S type i ss))
  missed_tells arms [] = refl
  missed_tells arms (s ∷ ss) =
      step_all (allows_one q i s) (λ z. arm_for z arms) (λ z. has_arm S type z (arms_of (map plain_arm arms))) s (allowed_of S type i ss) (one_missed q i arms ss)
      (arm_tells S type s arms) (missed_tells arms ss)

  -- whether some are left
  abbrev some_left : List ℕ → Bool
  some_left [] = false
  some_left (s ∷ ss) = true

  allowed_left : (ss : List ℕ) → one_allowed q i ss ≡ some_left (allowed_of S type i ss)
  allowed_left [] = refl
  allowed_left (s ∷ ss) = by_first (allows_one q i s) (one_allowed q i ss) (allowed_of S type i ss) (allowed_left ss)
    where
      by_first : (a m : Bool) (rest : List ℕ) → m ≡ some_left rest → (a || m) ≡ some_left (if a then s ∷ rest else rest)
      by_first true m rest e = refl
      by_first false m rest e = e

  others_left : (s : ℕ) (ss : List ℕ) → another q i s ss ≡ not (list_all (λ f. nat_eq f s) (allowed_of S type i ss))
  others_left s [] = refl
  others_left s (f ∷ ss) =
      ap (λ x. x || another q i s ss) (either_order (not (nat_eq f s)) (allows_one q i f))
      ∙ step_all (allows_one q i f) (λ g. nat_eq g s) (λ g. nat_eq g s) f (allowed_of S type i ss) (another q i s ss) refl (others_left s ss)
    where
      either_order : (x y : Bool) → (x && y) ≡ (y && x)
      either_order true true = refl
      either_order true false = refl
      either_order false true = refl
      either_order false false = refl

  alone_of : (s : ℕ) (ss : List ℕ) → (some_left ss && list_all (λ f. nat_eq f s) ss) ≡ is_alone S type s (Some ss)
  alone_of s [] = refl
  alone_of s (f ∷ fs) = refl

  alone_tells : (s : ℕ) (ss : List ℕ) → (one_allowed q i ss && not (another q i s ss)) ≡ is_alone S type s (Some (allowed_of S type i ss))
  alone_tells s ss =
      ap₂ (λ x y. x && not y) (allowed_left ss) (others_left s ss)
      ∙ ap (λ x. some_left (allowed_of S type i ss) && x) (not_not (list_all (λ f. nat_eq f s) (allowed_of S type i ss)))
      ∙ alone_of s (allowed_of S type i ss)
    where
      not_not : (x : Bool) → not (not x) ≡ x
      not_not true = refl
      not_not false = refl

pub alone_some : (q : PlainProcs) (t : TypeTerm) (i s u : ℕ) (b : Bool) → Some u ≡ union_of t → b ≡ (one_allowed q i ((source_of q).symbols_of u) && not (another q i s ((source_of q).symbols_of u))) → Alone q t i s b
alone_some q (union_type v ts) i s u b e h outcome type =
    let same : u ≡ v = cc in
    h ∙ ap (λ z. one_allowed q i ((source_of q).symbols_of z) && not (another q i s ((source_of q).symbols_of z))) same ∙ alone_tells q outcome type i s ((source_of q).symbols_of v)
alone_some q int_type i s u b e h outcome type = cc
alone_some q char_type i s u b e h outcome type = cc
alone_some q string_type i s u b e h outcome type = cc
alone_some q state_type i s u b e h outcome type = cc
alone_some q (variable_type v) i s u b e h outcome type = cc

pub alone_none : (q : PlainProcs) (t : TypeTerm) (i s : ℕ) → None ≡ union_of t → Alone q t i s false
alone_none q (union_type v ts) i s e outcome type = cc
alone_none q int_type i s e outcome type = refl
alone_none q char_type i s e outcome type = refl
alone_none q string_type i s e outcome type = refl
alone_none q state_type i s e outcome type = refl
alone_none q (variable_type v) i s e outcome type = refl

pub missed_some : (q : PlainProcs) (t : TypeTerm) (i u : ℕ) (arms : List Arm) (b : Bool) → Some u ≡ union_of t → b ≡ one_missed q i arms ((source_of q).symbols_of u) → Missed q t i (arms_of (map plain_arm arms)) b
missed_some q (union_type v ts) i u arms b e h outcome type =
    let same : u ≡ v = cc in
    h ∙ ap (λ z. one_missed q i arms ((source_of q).symbols_of z)) same ∙ missed_tells q outcome type i arms ((source_of q).symbols_of v)
missed_some q int_type i u arms b e h outcome type = cc
missed_some q char_type i u arms b e h outcome type = cc
missed_some q string_type i u arms b e h outcome type = cc
missed_some q state_type i u arms b e h outcome type = cc
missed_some q (variable_type v) i u arms b e h outcome type = cc

pub missed_none : (q : PlainProcs) (t : TypeTerm) (i : ℕ) (arms : Arms) → None ≡ union_of t → Missed q t i arms true
missed_none q (union_type v ts) i arms e outcome type = cc
missed_none q int_type i arms e outcome type = refl
missed_none q char_type i arms e outcome type = refl
missed_none q string_type i arms e outcome type = refl
missed_none q state_type i arms e outcome type = refl
missed_none q (variable_type v) i arms e outcome type = refl
