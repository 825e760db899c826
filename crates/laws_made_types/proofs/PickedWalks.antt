-- The picks of a walk fit its steps, and a clause that is walked has as many arguments as its predicate has types.
use Rattle.std.proofs.Common.{◌≡◌, ℕ, suc, ◌+◌, List, [], ◌∷◌, ◌++◌, length, refl, sym, ap, ◌∙◌, subst, arith, append_assoc, append-nil, length-append}
use Rattle.mc_program.specs.Programs.{TypeTerm, int_type, string_type, Source}
use Rattle.mc_accepted.specs.ProperTypes.{Parameters}
use Rattle.mc_accepted.specs.Resolving.{Unresolved, any_variable, any_number, any_text, any_name, Unresolved_terms, no_terms, term_then, count, Unresolved_goal, equation, atom, all_of, one_of, choice, negation, exists, Unresolved_goals, no_goals, goal_then, Step, choose, call, equate, close_head, term_steps, terms_steps, goal_steps, goals_steps, Walks, below, Takes}
use Rattle.mc_source.specs.declared.name.Candidate.{Candidate}
use Rattle.mc_source.specs.declared.name.Candidate.TheVariants as C
use Rattle.laws_made_types.specs.Known.{Bare, Picked}
use Rattle.laws_made_types.specs.MadeTypes.{WalksArePicked}
use Rattle.laws_made_types.proofs.FlatTypings.{topmost_is, below_is}

module _ (P : Source) (D : Parameters) (τ : ℕ → TypeTerm) where
  -- steps were walked, and left so many types on the stack; their picks fit where the picks that are left do
  record Went (all steps : List Step) (stack : List TypeTerm) (n : ℕ) (picks : List Candidate) : Type 0 where
    types : List TypeTerm
    as_many : length types ≡ n
    left : List Candidate
    rest : Walks P D τ steps (stack ++ types) left
    picked : Picked steps left → Picked all picks

  -- a character takes no arguments
  bare : (c : Candidate) (n : ℕ) (ts : List TypeTerm) (t : TypeTerm) → length ts ≡ n → Takes P D c (ts ++ t ∷ []) → Bare n c
  bare (C.Con s) n ts t e h = tt
  bare (C.Func f) n ts t e h = tt
  bare (C.Pred p) n ts t e h = tt
  bare (C.Char c) n ts t e h = let long : 1 ≡ length (ts ++ t ∷ []) = ap length h.1 in omega (arith, e, long, length-append ts (t ∷ []))

  chose : (all steps : List Step) (stack : List TypeTerm) (picks cs : List Candidate) (n : ℕ) (a : Went all (choose cs n ∷ steps) stack n picks) → Went all steps stack 1 picks
  chose all steps stack picks cs n a = by_left a.left a.rest a.picked
    where
      by_left : (left : List Candidate) → Walks P D τ (choose cs n ∷ steps) (stack ++ a.types) left → (Picked (choose cs n ∷ steps) left → Picked all picks) → Went all steps stack 1 picks
      by_left [] h picked = absurd h
      by_left (c ∷ left) h picked =
          let t = h.2 in
          let takes = subst (λ us. Takes P D c (us ++ t ∷ [])) (topmost_is stack a.types n a.as_many) h.3 in
          record {
            types = t ∷ [];
            as_many = refl;
            left = left;
            rest = subst (λ us. Walks P D τ steps (us ++ t ∷ []) left) (below_is stack a.types n a.as_many) h.4;
            picked = λ p. picked (h.0, h.1, bare c n a.types t a.as_many takes, p);
          }

  called : (all steps : List Step) (stack : List TypeTerm) (picks cs : List Candidate) (n : ℕ) (a : Went all (call cs n ∷ steps) stack n picks) → Went all steps stack 0 picks
  called all steps stack picks cs n a = by_left a.left a.rest a.picked
    where
      by_left : (left : List Candidate) → Walks P D τ (call cs n ∷ steps) (stack ++ a.types) left → (Picked (call cs n ∷ steps) left → Picked all picks) → Went all steps stack 0 picks
      by_left [] h picked = absurd h
      by_left (c ∷ left) h picked =
          record {
            types = [];
            as_many = refl;
            left = left;
            rest = subst (λ us. Walks P D τ steps us left) (below_is stack a.types n a.as_many ∙ sym (append-nil stack)) h.3;
            picked = λ p. picked (h.0, h.1, p);
          }

  -- other steps behind those that were walked
  then_went : (all middle steps : List Step) (stack : List TypeTerm) (n k : ℕ) (picks : List Candidate) → (a : Went all middle stack n picks) → Went middle steps (stack ++ a.types) k a.left → Went all steps stack (n + k) picks
  then_went all middle steps stack n k picks a b =
      record {
        types = a.types ++ b.types;
        as_many = omega (arith, a.as_many, b.as_many, length-append a.types b.types);
        left = b.left;
        rest = subst (λ us. Walks P D τ steps us b.left) (append_assoc stack a.types b.types) b.rest;
        picked = λ p. a.picked (b.picked p);
      }

  mutual
    term_went : (e : Unresolved) (steps : List Step) (stack : List TypeTerm) (picks : List Candidate) → Walks P D τ (term_steps e ++ steps) stack picks → Went (term_steps e ++ steps) steps stack 1 picks
    term_went (any_variable v) steps stack picks w = record { types = τ v ∷ []; as_many = refl; left = picks; rest = w; picked = λ p. p }
    term_went (any_number n) steps stack picks w = record { types = int_type ∷ []; as_many = refl; left = picks; rest = w; picked = λ p. p }
    term_went (any_text bytes) steps stack picks w = record { types = string_type ∷ []; as_many = refl; left = picks; rest = w; picked = λ p. p }
    term_went (any_name cs args) steps stack picks w =
        let later = choose cs (count args) ∷ steps in
        let same : (terms_steps args ++ choose cs (count args) ∷ []) ++ steps ≡ terms_steps args ++ later = append_assoc (terms_steps args) (choose cs (count args) ∷ []) steps in
        subst (λ s. Went s steps stack 1 picks) (sym same)
        (chose (terms_steps args ++ later) steps stack picks cs (count args) (terms_went args later stack picks (subst (λ s. Walks P D τ s stack picks) same w)))

    terms_went : (es : Unresolved_terms) (steps : List Step) (stack : List TypeTerm) (picks : List Candidate) → Walks P D τ (terms_steps es ++ steps) stack picks → Went (terms_steps es ++ steps) steps stack (count es) picks
    terms_went no_terms steps stack picks w = record { types = []; as_many = refl; left = picks; rest = subst (λ us. Walks P D τ steps us picks) (sym (append-nil stack)) w; picked = λ p. p }
    terms_went (term_then e es) steps stack picks w =
        let later = terms_steps es ++ steps in
        let same : (term_steps e ++ terms_steps es) ++ steps ≡ term_steps e ++ later = append_assoc (term_steps e) (terms_steps es) steps in
        let a = term_went e later stack picks (subst (λ s. Walks P D τ s stack picks) same w) in
        let one : 1 + count es ≡ suc (count es) = omega arith in
        subst (λ s. Went s steps stack (suc (count es)) picks) (sym same)
        (subst (λ k. Went (term_steps e ++ later) steps stack k picks) one (then_went (term_steps e ++ later) later steps stack 1 (count es) picks a (terms_went es steps (stack ++ a.types) a.left a.rest)))

  -- both sides of an equation are taken from the stack
  equated : (all steps : List Step) (stack : List TypeTerm) (picks : List Candidate) → Went all (equate ∷ steps) stack 2 picks → Went all steps stack 0 picks
  equated all steps stack picks a =
      record {
        types = [];
        as_many = refl;
        left = a.left;
        rest = subst (λ us. Walks P D τ steps us a.left) (below_is stack a.types 2 a.as_many ∙ sym (append-nil stack)) a.rest.2;
        picked = λ p. a.picked p;
      }

  mutual
    goal_went : (g : Unresolved_goal) (steps : List Step) (stack : List TypeTerm) (picks : List Candidate) → Walks P D τ (goal_steps g ++ steps) stack picks → Went (goal_steps g ++ steps) steps stack 0 picks
    goal_went (equation a b) steps stack picks w =
        let end = equate ∷ [] in
        let later = term_steps b ++ (equate ∷ steps) in
        let same : (term_steps a ++ (term_steps b ++ end)) ++ steps ≡ term_steps a ++ later =
        append_assoc (term_steps a) (term_steps b ++ end) steps ∙ ap (λ s. term_steps a ++ s) (append_assoc (term_steps b) end steps) in
        let x = term_went a later stack picks (subst (λ s. Walks P D τ s stack picks) same w) in
        let y = term_went b (equate ∷ steps) (stack ++ x.types) x.left x.rest in
        subst (λ s. Went s steps stack 0 picks) (sym same) (equated (term_steps a ++ later) steps stack picks (then_went (term_steps a ++ later) later (equate ∷ steps) stack 1 1 picks x y))
    goal_went (atom cs args) steps stack picks w =
        let later = call cs (count args) ∷ steps in
        let same : (terms_steps args ++ call cs (count args) ∷ []) ++ steps ≡ terms_steps args ++ later = append_assoc (terms_steps args) (call cs (count args) ∷ []) steps in
        subst (λ s. Went s steps stack 0 picks) (sym same)
        (called (terms_steps args ++ later) steps stack picks cs (count args) (terms_went args later stack picks (subst (λ s. Walks P D τ s stack picks) same w)))
    goal_went (all_of gs) steps stack picks w = goals_went gs steps stack picks w
    goal_went (one_of gs) steps stack picks w = goals_went gs steps stack picks w
    goal_went (choice vs c t e) steps stack picks w =
        let after_c = goal_steps t ++ (goal_steps e ++ steps) in
        let after_t = goal_steps e ++ steps in
        let same : (goal_steps c ++ (goal_steps t ++ goal_steps e)) ++ steps ≡ goal_steps c ++ after_c =
        append_assoc (goal_steps c) (goal_steps t ++ goal_steps e) steps ∙ ap (λ s. goal_steps c ++ s) (append_assoc (goal_steps t) (goal_steps e) steps) in
        let x = goal_went c after_c stack picks (subst (λ s. Walks P D τ s stack picks) same w) in
        let y = goal_went t after_t (stack ++ x.types) x.left x.rest in
        let xy = then_went (goal_steps c ++ after_c) after_c after_t stack 0 0 picks x y in
        let z = goal_went e steps (stack ++ xy.types) xy.left xy.rest in
        subst (λ s. Went s steps stack 0 picks) (sym same) (then_went (goal_steps c ++ after_c) after_t steps stack 0 0 picks xy z)
    goal_went (negation g) steps stack picks w = goal_went g steps stack picks w
    goal_went (exists vs g) steps stack picks w = goal_went g steps stack picks w

    goals_went : (gs : Unresolved_goals) (steps : List Step) (stack : List TypeTerm) (picks : List Candidate) → Walks P D τ (goals_steps gs ++ steps) stack picks → Went (goals_steps gs ++ steps) steps stack 0 picks
    goals_went no_goals steps stack picks w = record { types = []; as_many = refl; left = picks; rest = subst (λ us. Walks P D τ steps us picks) (sym (append-nil stack)) w; picked = λ p. p }
    goals_went (goal_then g gs) steps stack picks w =
        let later = goals_steps gs ++ steps in
        let same : (goal_steps g ++ goals_steps gs) ++ steps ≡ goal_steps g ++ later = append_assoc (goal_steps g) (goals_steps gs) steps in
        let x = goal_went g later stack picks (subst (λ s. Walks P D τ s stack picks) same w) in
        subst (λ s. Went s steps stack 0 picks) (sym same) (then_went (goal_steps g ++ later) later steps stack 0 0 picks x (goals_went gs steps (stack ++ x.types) x.left x.rest))

-- THE PICKS OF A WALK FIT ITS STEPS
pub walks_are_picked : WalksArePicked
walks_are_picked P D clause picks τ w =
    let n = count clause.head in
    let body = goal_steps clause.body in
    let a = terms_went P D τ clause.head (close_head clause.pred n ∷ body) [] picks w in
    let nil = append-nil body in
    let w' : Walks P D τ (body ++ []) (below n a.types) a.left = subst (λ s. Walks P D τ s (below n a.types) a.left) (sym nil) a.rest.1 in
    let b = goal_went P D τ clause.body [] (below n a.types) a.left w' in
    let is_declared : a.types ≡ (P.preds clause.pred).types = sym (topmost_is [] a.types n a.as_many) ∙ a.rest.0 in
    (a.picked (subst (λ s. Picked s a.left) nil (b.picked b.rest)), sym a.as_many ∙ ap length is_declared)
