-- The places of head arguments, one argument after another, and the numbers that come of them.
use Rattle.std.proofs.Common.{◌≡◌, ℕ, suc, ◌+◌, List, [], ◌∷◌, ◌++◌, length, Bool, true, false, cond, nat_eq, ◌||◌, Option, Some, None, refl, sym, ap, ap₂, ◌∙◌, subst, arith, append_assoc, append-nil}
use Rattle.std.specs.Option.{is_some}
use Rattle.std.proofs.Math.Path.{fun_ext}
use Rattle.std.proofs.lemmas.Bool.{eqb-true}
use Rattle.mc_program.specs.Programs.{Expression, variable, constant, made, applied, ClauseForm}
use Rattle.mc_model.specs.Lists.{is_in, once, place_in}
use Rattle.mc_accepted.specs.Scope.{variables_in, variables_in_all, occurring}
use Rattle.mc_accepted.specs.Normal.{one_more, head_place, has_place, no_arguments, place_or, is_place, named_by_quantifiers, other_variables, names_in}
use Rattle.mc_goals.specs.declared.numbers.Number.{Number}
use Rattle.mc_goals.specs.declared.numbers.Number.TheVariants as N
use Rattle.mc_goals.specs.declared.numbering.Numbering.{Numbering}
use Rattle.mc_goals.specs.code.Naming.{variable_in}
use Rattle.mc_goals.specs.code.Numbering.{number_or, own_place}
use Rattle.mc_goals.specs.code.Meeting.{slot_of, MetArgumentIf, MetArgument, number_for, Knows, head_variables}
use Rattle.mc_goals.proofs.Lists.{itself, is_in-append, once-push, is_in-once, place-absent}
use Rattle.mc_goals.proofs.Meeting.{others_of, no_arguments-append, in_others, known_some}

pub head_variables-append : (hs ts : List Expression) → head_variables (hs ++ ts) ≡ head_variables hs ++ head_variables ts
head_variables-append [] ts = refl
head_variables-append (h ∷ hs) ts = ap (λ l. variables_in h ++ l) (head_variables-append hs ts) ∙ sym (append_assoc (variables_in h) (head_variables hs) (head_variables ts))

-- behind k arguments
abbrev behind : ℕ → Option ℕ → Option ℕ
behind k None = None
behind k (Some i) = Some (k + i)

one_behind : (k : ℕ) (o : Option ℕ) → one_more (behind k o) ≡ behind (suc k) o
one_behind k None = refl
one_behind k (Some i) = ap Some (omega arith)

none_behind : (o : Option ℕ) → behind 0 o ≡ o
none_behind None = refl
none_behind (Some i) = ap Some (omega arith)

more_cond : (m : Bool) (o p : Option ℕ) → one_more (cond m o p) ≡ cond m (one_more o) (one_more p)
more_cond true o p = refl
more_cond false o p = refl

variable_step : (t m : Bool) (o p q : Option ℕ) → q ≡ cond m o p → cond t (Some 0) (one_more q) ≡ cond (cond t true m) (cond t (Some 0) (one_more o)) (one_more p)
variable_step true m o p q h = refl
variable_step false m o p q h = ap one_more h ∙ more_cond m o p

other_step : (t m : Bool) (o p q : Option ℕ) → q ≡ cond m o p → cond t None (one_more q) ≡ cond (t || m) (cond t None (one_more o)) (one_more p)
other_step true m o p q h = refl
other_step false m o p q h = ap one_more h ∙ more_cond m o p

-- the place of a variable in more arguments: where it was met, as before; else behind those
pub place-more : (x : ℕ) (hs ts : List Expression) → head_place x (hs ++ ts) ≡ cond (is_in x (head_variables hs)) (head_place x hs) (behind (length hs) (head_place x ts))
place-more x [] ts = sym (none_behind (head_place x ts))
place-more x (variable y ∷ hs) ts =
    variable_step (nat_eq x y) (is_in x (head_variables hs)) (head_place x hs) (behind (length hs) (head_place x ts)) (head_place x (hs ++ ts)) (place-more x hs ts)
    ∙ ap (λ o. cond (is_in x (y ∷ head_variables hs)) (head_place x (variable y ∷ hs)) o) (one_behind (length hs) (head_place x ts))
place-more x (constant c ∷ hs) ts =
    other_step false (is_in x (head_variables hs)) (head_place x hs) (behind (length hs) (head_place x ts)) (head_place x (hs ++ ts)) (place-more x hs ts)
    ∙ ap (λ o. cond (is_in x (head_variables hs)) (one_more (head_place x hs)) o) (one_behind (length hs) (head_place x ts))
place-more x (made f us ∷ hs) ts =
    other_step (is_in x (variables_in_all us)) (is_in x (head_variables hs)) (head_place x hs) (behind (length hs) (head_place x ts)) (head_place x (hs ++ ts)) (place-more x hs ts)
    ∙ ap₂ (λ (m : Bool) o. cond m (head_place x (made f us ∷ hs)) o) (sym (is_in-append x (variables_in_all us) (head_variables hs))) (one_behind (length hs) (head_place x ts))
place-more x (applied f us ∷ hs) ts =
    other_step (is_in x (variables_in_all us)) (is_in x (head_variables hs)) (head_place x hs) (behind (length hs) (head_place x ts)) (head_place x (hs ++ ts)) (place-more x hs ts)
    ∙ ap₂ (λ (m : Bool) o. cond m (head_place x (applied f us ∷ hs)) o) (sym (is_in-append x (variables_in_all us) (head_variables hs))) (one_behind (length hs) (head_place x ts))

none_either : (t : Bool) → cond t None None ≡ (let o : Option ℕ = None in o)
none_either true = refl
none_either false = refl

-- a term that is no variable is no variable's place
pub no_place : (x : ℕ) (t : Expression) → variable_in t ≡ None → head_place x (t ∷ []) ≡ None
no_place x (variable y) h = cc
no_place x (constant c) h = refl
no_place x (made f us) h = none_either (is_in x (variables_in_all us))
no_place x (applied f us) h = none_either (is_in x (variables_in_all us))

absent_step : (t m : Bool) (o : Option ℕ) → cond t true m ≡ false → (m ≡ false → o ≡ None) → cond t (Some 0) (one_more o) ≡ None
absent_step true m o h rest = cc
absent_step false m o h rest = ap one_more (rest h)

absent_other : (t m : Bool) (o : Option ℕ) → (t || m) ≡ false → (m ≡ false → o ≡ None) → cond t None (one_more o) ≡ None
absent_other true m o h rest = refl
absent_other false m o h rest = ap one_more (rest h)

-- a variable that the head doesn't have has no place there
pub place-none : (x : ℕ) (hs : List Expression) → is_in x (head_variables hs) ≡ false → head_place x hs ≡ None
place-none x [] h = refl
place-none x (variable y ∷ hs) h = absent_step (nat_eq x y) (is_in x (head_variables hs)) (head_place x hs) h (λ k. place-none x hs k)
place-none x (constant c ∷ hs) h = ap one_more (place-none x hs h)
place-none x (made f us ∷ hs) h = absent_other (is_in x (variables_in_all us)) (is_in x (head_variables hs)) (head_place x hs) (sym (is_in-append x (variables_in_all us) (head_variables hs)) ∙ h) (λ k. place-none x hs k)
place-none x (applied f us ∷ hs) h = absent_other (is_in x (variables_in_all us)) (is_in x (head_variables hs)) (head_place x hs) (sym (is_in-append x (variables_in_all us) (head_variables hs)) ∙ h) (λ k. place-none x hs k)

either_same : (m : Bool) (o p : Option ℕ) → (m ≡ false → o ≡ p) → cond m o p ≡ o
either_same true o p h = refl
either_same false o p h = sym (h refl)

-- a term that is no variable changes no place
pub place-kept : (x : ℕ) (hs : List Expression) (t : Expression) → variable_in t ≡ None → head_place x (hs ++ t ∷ []) ≡ head_place x hs
place-kept x hs t h =
    place-more x hs (t ∷ []) ∙ ap (λ o. cond (is_in x (head_variables hs)) (head_place x hs) (behind (length hs) o)) (no_place x t h)
    ∙ either_same (is_in x (head_variables hs)) (head_place x hs) None (λ k. place-none x hs k)

same_elements : (head head' : List Expression) (zs xs : List ℕ) → ((w : ℕ) → is_in w zs ≡ true → head_place w head' ≡ head_place w head) → ((w : ℕ) → is_in w xs ≡ true → is_in w zs ≡ true) → no_arguments head' xs ≡ no_arguments head xs
same_elements head head' zs [] h among = refl
same_elements head head' zs (x ∷ xs) h among =
    ap₂ (λ (o : Option ℕ) l. cond (has_place o) l (x ∷ l)) (h x (among x (ap (λ t. cond t true (is_in x xs)) (itself x))))
    (same_elements head head' zs xs h (λ w k. among w (ap (λ t. cond (nat_eq w x) true t) k ∙ always (nat_eq w x))))
  where
    always : (t : Bool) → cond t true true ≡ true
    always true = refl
    always false = refl

-- the others are the same where the variables that were met have the same places
others_same : (head head' : List Expression) (ys : List ℕ) → ((w : ℕ) → is_in w ys ≡ true → head_place w head' ≡ head_place w head) → others_of head' ys ≡ others_of head ys
others_same head head' ys h = same_elements head head' ys (once ys) h (λ w k. sym (is_in-once w ys) ∙ k)

-- an argument that is no variable, whose variables were met
pub knows_term : (n : ℕ) (hs : List Expression) (t : Expression) (ys : List ℕ) (b : Numbering) → variable_in t ≡ None → Knows n hs ys b → Knows n (hs ++ t ∷ []) ys b
knows_term n hs t ys b none k =
    let same : (w : ℕ) → head_place w (hs ++ t ∷ []) ≡ head_place w hs = λ w. place-kept w hs t none in
    let others : others_of (hs ++ t ∷ []) ys ≡ others_of hs ys = others_same hs (hs ++ t ∷ []) ys (λ w h. same w) in
    record {
      first = k.first;
      others = k.others ∙ sym others;
      slots = λ w. k.slots w ∙ ap₂ (λ (l : List ℕ) (o : Option ℕ). cond (is_in w ys) (Some (number_for n l o w)) None) (sym others) (sym (same w));
      heads = λ w h. same w ∙ k.heads w h;
    }

-- an argument that is a variable
module _ (n : ℕ) (hs : List Expression) (v : ℕ) (b b' : Numbering) (k : Knows n hs (head_variables hs) b) where
  abbrev ys : List ℕ
  ys = head_variables hs

  abbrev head : List Expression
  head = hs ++ variable v ∷ []

  abbrev all : List ℕ
  all = ys ++ v ∷ []

  place_now : (w : ℕ) → head_place w head ≡ cond (is_in w ys) (head_place w hs) (behind (length hs) (cond (nat_eq w v) (Some 0) None))
  place_now w = place-more w hs (variable v ∷ [])

  of_met : (w : ℕ) → is_in w ys ≡ true → head_place w head ≡ head_place w hs
  of_met w h = place_now w ∙ ap (λ t. cond t (head_place w hs) (behind (length hs) (cond (nat_eq w v) (Some 0) None))) h

  others_now : others_of head ys ≡ others_of hs ys
  others_now = others_same hs head ys of_met

  heads_now : (w : ℕ) → is_in w all ≡ false → head_place w head ≡ None
  heads_now w h = place-none w head (ap (is_in w) (head_variables-append hs (variable v ∷ [])) ∙ h)

  in_all : (w : ℕ) → is_in w all ≡ (is_in w ys || cond (nat_eq w v) true false)
  in_all w = is_in-append w ys (v ∷ [])

  abbrev slot_now : (m t : Bool) → List ℕ → Option ℕ → ℕ → Option Number
  slot_now m t l o w = cond (m || cond t true false) (Some (number_for n l o w)) None

  finish : others_of head all ≡ others_of hs ys → (b'.first ≡ b.first) → b'.others.items ≡ b.others.items
      → ((w : ℕ) → slot_of b' w ≡ slot_now (is_in w ys) (nat_eq w v) (others_of hs ys) (head_place w head) w) → Knows n head all b'
  finish same f o s =
      record {
        first = f ∙ k.first;
        others = o ∙ k.others ∙ sym same;
        slots = λ w. s w ∙ ap₂ (λ (m : Bool) (l : List ℕ). cond m (Some (number_for n l (head_place w head) w)) None) (sym (in_all w)) (sym same);
        heads = heads_now;
      }

  others_all : (t : Bool) → is_in v ys ≡ t → others_of head all ≡ others_of hs ys
  others_all true h = ap (no_arguments head) (once-push ys v ∙ ap (λ t. cond t (once ys) (once ys ++ v ∷ [])) h) ∙ others_now
  others_all false h =
      let own : head_place v head ≡ Some (length hs + 0) =
      place_now v ∙ ap₂ (λ s t. cond s (head_place v hs) (behind (length hs) (cond t (Some 0) None))) h (itself v) in
      ap (no_arguments head) (once-push ys v ∙ ap (λ t. cond t (once ys) (once ys ++ v ∷ [])) h)
      ∙ no_arguments-append head (once ys) (v ∷ [])
      ∙ ap₂ (λ (l : List ℕ) (o : Option ℕ). l ++ cond (has_place o) [] (v ∷ [])) others_now own
      ∙ append-nil (others_of hs ys)

  -- it was met before
  slot_before : is_in v ys ≡ true → (w : ℕ) → slot_of b w ≡ slot_now (is_in w ys) (nat_eq w v) (others_of hs ys) (head_place w head) w
  slot_before there w = k.slots w ∙ by_tests (is_in w ys) (nat_eq w v) refl (eqb-true w v)
    where
      by_tests : (m t : Bool) → is_in w ys ≡ m → (t ≡ true → w ≡ v) → cond m (Some (number_for n (others_of hs ys) (head_place w hs) w)) None ≡ slot_now m t (others_of hs ys) (head_place w head) w
      by_tests true t h q = ap (λ o. Some (number_for n (others_of hs ys) o w)) (sym (of_met w h))
      by_tests false true h q = let f : false ≡ true = sym h ∙ ap (λ x. is_in x ys) (q refl) ∙ there in cc
      by_tests false false h q = refl

  -- it is new
  slot_new : is_in v ys ≡ false → (w : ℕ) → cond (nat_eq w v) (Some (N.Argument (length hs))) (slot_of b w) ≡ slot_now (is_in w ys) (nat_eq w v) (others_of hs ys) (head_place w head) w
  slot_new absent w =
      ap (λ o. cond (nat_eq w v) (Some (N.Argument (length hs))) o) (k.slots w)
      ∙ by_tests (is_in w ys) (nat_eq w v) refl refl (eqb-true w v)
    where
      by_tests : (m t : Bool) → is_in w ys ≡ m → nat_eq w v ≡ t → (t ≡ true → w ≡ v) →
          cond t (Some (N.Argument (length hs))) (cond m (Some (number_for n (others_of hs ys) (head_place w hs) w)) None) ≡ slot_now m t (others_of hs ys) (head_place w head) w
      by_tests true true h e q = let f : true ≡ false = sym h ∙ ap (λ x. is_in x ys) (q refl) ∙ absent in cc
      by_tests true false h e q = ap (λ o. Some (number_for n (others_of hs ys) o w)) (sym (of_met w h))
      by_tests false true h e q =
          let own : head_place w head ≡ Some (length hs) =
          place_now w ∙ ap₂ (λ s t. cond s (head_place w hs) (behind (length hs) (cond t (Some 0) None))) h e ∙ ap Some (omega arith) in
          ap (λ o. Some (number_for n (others_of hs ys) o w)) (sym own)
      by_tests false false h e q = refl

  by_before : (t : Bool) → is_in v ys ≡ t → MetArgumentIf t b v (length hs) b' → Knows n head all b'
  by_before true h m = finish (others_all true h) m.2 m.1 (λ w. m.0 w ∙ slot_before h w)
  by_before false h m = finish (others_all false h) m.2 m.1 (λ w. m.0 w ∙ slot_new h w)

  was_met : is_some (slot_of b v) ≡ is_in v ys
  was_met = ap is_some (k.slots v) ∙ known_some (is_in v ys) (number_for n (others_of hs ys) (head_place v hs) v)

pub knows_variable : (n : ℕ) (hs : List Expression) (v : ℕ) (b b' : Numbering) → Knows n hs (head_variables hs) b → MetArgument b v (length hs) b' → Knows n (hs ++ variable v ∷ []) (head_variables hs ++ v ∷ []) b'
knows_variable n hs v b b' k m = by_before n hs v b b' k (is_in v (head_variables hs)) refl (subst (λ t. MetArgumentIf t b v (length hs) b') (was_met n hs v b b' k) m)

-- In the end the numbers are those of the clause.
module _ (n : ℕ) (c : ClauseForm) (b : Numbering) (k : Knows n c.head (head_variables c.head ++ (occurring c.body ++ named_by_quantifiers c.body)) b) where
  abbrev occurrences : List ℕ
  occurrences = head_variables c.head ++ (occurring c.body ++ named_by_quantifiers c.body)

  name_of : (v : ℕ) → number_or (n + length (other_variables c)) (slot_of b v) ≡ names_in n c v
  name_of v = ap (number_or (n + length (other_variables c))) (k.slots v) ∙ by_tests (is_in v occurrences) refl (head_place v c.head) refl
    where
      by_tests : (m : Bool) → is_in v occurrences ≡ m → (o : Option ℕ) → head_place v c.head ≡ o →
          number_or (n + length (other_variables c)) (cond m (Some (number_for n (other_variables c) o v)) None) ≡ place_or (n + place_in v (other_variables c)) o
      by_tests true h None e = refl
      by_tests true h (Some i) e = refl
      by_tests false h None e = ap (λ x. n + x) (sym (place-absent v (other_variables c) (in_others c.head v occurrences e ∙ h)))
      by_tests false h (Some i) e = let f : Some i ≡ None = sym e ∙ k.heads v h in cc

  pub names_are : (λ v. number_or (n + length (other_variables c)) (slot_of b v)) ≡ names_in n c
  names_are = fun_ext name_of

  pub own_is : (v i : ℕ) → own_place i (slot_of b v) ≡ is_place i (head_place v c.head)
  own_is v i = ap (own_place i) (k.slots v) ∙ by_tests (is_in v occurrences) refl (head_place v c.head) refl
    where
      by_tests : (m : Bool) → is_in v occurrences ≡ m → (o : Option ℕ) → head_place v c.head ≡ o → own_place i (cond m (Some (number_for n (other_variables c) o v)) None) ≡ is_place i o
      by_tests true h None e = refl
      by_tests true h (Some j) e = refl
      by_tests false h None e = refl
      by_tests false h (Some j) e = let f : Some j ≡ None = sym e ∙ k.heads v h in cc
