-- A clause's goal: the equations of its head, and then its body.
use Rattle.std.proofs.Common.{◌≡◌, ℕ, suc, ◌+◌, List, [], ◌∷◌, ◌++◌, length, get_or, Bool, true, false, cond, Option, Some, None, refl, sym, ap, ap₂, ◌∙◌, subst, arith}
use Rattle.mc_program.specs.Programs.{Expression, variable, constant, made, applied, ClauseForm}
use Rattle.mc_accepted.specs.Scope.{occurring}
use Rattle.mc_accepted.specs.Normal.{head_place, is_place, named_by_quantifiers, other_variables, names_in, Conjuncts, equate, one_or_and, conjunction, conjuncts_of, head_equation, head_equations, clause_goal}
use Rattle.mc_goals.specs.declared.numbers.Number.{Number}
use Rattle.mc_goals.specs.declared.numbers.Numbers.{Numbers}
use Rattle.mc_goals.specs.declared.numbering.Numbering.{Numbering}
use Rattle.mc_goals.specs.code.Naming.{followed, variable_in}
use Rattle.mc_goals.specs.code.Numbering.{number_at, number_or, own_place, Places}
use Rattle.mc_goals.specs.code.Meeting.{Knows, head_variables}
use Rattle.mc_goals.proofs.Naming.{followed-assoc, nothing, followed-nothing}
use Rattle.mc_goals.proofs.Conjunctions.{Single, single-append, equated_single, goal_single}
use Rattle.mc_goals.proofs.Heads.{names_are, own_is}

-- whether a head argument is the head variable of its place
abbrev pub own_in : ℕ → List Expression → Option ℕ → Bool
own_in i hs None = false
own_in i hs (Some v) = is_place i (head_place v hs)

module _ (names : ℕ → ℕ) (hs : List Expression) where
  pub argument_by : (n i : ℕ) (t : Expression) → head_equation names hs n i t ≡ cond (own_in i hs (variable_in t)) (nothing n) (equate names n i t)
  argument_by n i (variable v) = refl
  argument_by n i (constant c) = refl
  argument_by n i (made f us) = refl
  argument_by n i (applied f us) = refl

  pub own_argument : (s : Conjuncts) (i : ℕ) (t : Expression) (v : ℕ) → variable_in t ≡ Some v → is_place i (head_place v hs) ≡ true → s ≡ followed s (head_equation names hs s.next i t)
  own_argument s i t v is own = sym (ap (followed s) (argument_by s.next i t ∙ ap (λ o. cond (own_in i hs o) (nothing s.next) (equate names s.next i t)) is ∙ ap (λ b. cond b (nothing s.next) (equate names s.next i t)) own) ∙ followed-nothing s)

  pub other_argument : (s : Conjuncts) (i : ℕ) (t : Expression) (o : Option ℕ) → variable_in t ≡ o → own_in i hs o ≡ false → equate names s.next i t ≡ head_equation names hs s.next i t
  other_argument s i t o is own = sym (argument_by s.next i t ∙ ap (λ p. cond (own_in i hs p) (nothing s.next) (equate names s.next i t)) is ∙ ap (λ b. cond b (nothing s.next) (equate names s.next i t)) own)

  -- the next argument
  pub next_argument : (s s' u : Conjuncts) (i : ℕ) (t : Expression) (ts : List Expression) → s' ≡ followed s (head_equation names hs s.next i t) →
      followed s (head_equations names hs s.next i (t ∷ ts)) ≡ u → followed s' (head_equations names hs s'.next (i + 1) ts) ≡ u
  next_argument s s' u i t ts is h =
      let r = head_equation names hs s.next i t in
      ap (λ (p : Conjuncts). followed p (head_equations names hs p.next (i + 1) ts)) is
      ∙ followed-assoc s r (head_equations names hs r.next (i + 1) ts)
      ∙ ap (λ j. followed s (followed r (head_equations names hs r.next j ts))) (omega arith)
      ∙ h

  argument_single : (n i : ℕ) (t : Expression) → Single (head_equation names hs n i t).goals
  argument_single n i t = subst (λ (r : Conjuncts). Single r.goals) (sym (argument_by n i t)) (by_test (own_in i hs (variable_in t)))
    where
      by_test : (b : Bool) → Single (cond b (nothing n) (equate names n i t)).goals
      by_test true = refl
      by_test false = equated_single names n i t

  pub arguments_single : (n i : ℕ) (ts : List Expression) → Single (head_equations names hs n i ts).goals
  arguments_single n i [] = refl
  arguments_single n i (t ∷ ts) =
      let r = head_equation names hs n i t in single-append r.goals (head_equations names hs r.next (suc i) ts).goals (argument_single n i t) (arguments_single r.next (suc i) ts)

-- a clause's goals are one conjunction
pub clause_conjunction : (n : ℕ) (c : ClauseForm) → conjunction (clause_goal n c).goals ≡ one_or_and (clause_goal n c).goals
clause_conjunction n c =
    let names = names_in n c in
    let r = head_equations names c.head (n + length (other_variables c)) 0 c.head in
    ap one_or_and (single-append r.goals (conjuncts_of names r.next c.body).goals (arguments_single names c.head (n + length (other_variables c)) 0 c.head) (goal_single names r.next c.body))

-- what is built is the clause's goal
pub clause_built : (n : ℕ) (c : ClauseForm) (names : ℕ → ℕ) (rest : ℕ) (s s' : Conjuncts) → names ≡ names_in n c → rest ≡ n + length (other_variables c)
    → s ≡ followed (nothing rest) (head_equations names c.head rest 0 c.head) → s' ≡ followed s (conjuncts_of names s.next c.body) → s' ≡ clause_goal n c
clause_built n c names rest s s' e f h b =
    b ∙ ap (λ (p : Conjuncts). followed p (conjuncts_of names p.next c.body)) h
    ∙ ap₂ (λ (g : ℕ → ℕ) m. let r = head_equations g c.head m 0 c.head in followed r (conjuncts_of g r.next c.body)) e f

abbrev pub clause_occurrences : ClauseForm → List ℕ
clause_occurrences c = head_variables c.head ++ (occurring c.body ++ named_by_quantifiers c.body)

-- the table of what was met gives the clause's numbers
module _ (n : ℕ) (c : ClauseForm) (b : Numbering) (numbers : Numbers) (k : Knows n c.head (clause_occurrences c) b) (slots : numbers.slots.items ≡ b.slots.items) (rest : numbers.rest ≡ n + length b.others.items) where
  pub rest_is : numbers.rest ≡ n + length (other_variables c)
  rest_is = rest ∙ ap (λ l. n + length l) k.others

  pub numbers_are : number_at numbers ≡ names_in n c
  numbers_are = ap₂ (λ r (l : List (Option Number)). λ v. number_or r (get_or l v None)) rest_is slots ∙ names_are n c b k

  pub places_are : Places numbers c.head
  places_are = subst (λ l. (v i : ℕ) → own_place i (get_or l v None) ≡ is_place i (head_place v c.head)) (sym slots) (own_is n c b k)

pub knows_nothing : (b : Numbering) → b.slots.items ≡ [] → b.others.items ≡ [] → Knows b.first [] [] b
knows_nothing b slots others =
    record { first = refl; others = others; slots = λ v. ap (λ l. get_or l v None) slots; heads = λ v h. refl }
