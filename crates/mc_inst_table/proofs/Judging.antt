-- Which definitions reach themselves over others than their own parameters, by what is kept of them.
use Rattle.std.proofs.Common.{◌≡◌, ◌≢◌, ◌⊎◌, inl, inr, ℕ, zero, suc, ◌+◌, ◌<◌, ◌≤◌, Bool, true, false, List, [], ◌∷◌, ◌++◌, map, length, slice_get, slice_index, nat_eq, if◌then◌else◌, refl, sym, ap, ◌∙◌, subst, arith, eqb-true}
use Rattle.std.specs.Prelude.{Option, Some, None}
use Rattle.std.proofs.lemmas.Bool.Decides.{eqb_tells}
use Rattle.mc_model.specs.Lists.{is_in}
use Rattle.mc_components.specs.Reached.{reaches, Way, step, over as onward}
use Rattle.mc_components.specs.Components.{steps, NumbersComponents}
use Rattle.mc_components.proofs.Reaching.{reached_by_ways}
use Rattle.mc_components.proofs.Returning.{begins}
use Rattle.mc_components.proofs.Certified.{in_head, in_tail, in_cases, inside}
use Rattle.mc_accepted.specs.InstRules.{InstTerm, parameter, inst_node, defined, bound_over, InstTerms, no_insts, inst_then, inst_at, Bodies, Mentions, Reaches, in_body, in_body_of, ReachesOthers}
use Rattle.mc_inst_table.specs.declared.links.Link.{Link}
use Rattle.mc_inst_table.specs.code.Ends.{how_many, needs}
use Rattle.mc_inst_table.specs.code.Links.{parameter_of, given_of, links, LinkIn, IsOrReaches, Passes}
use Rattle.mc_inst_table.specs.code.Places.{firsts_from, place, width_at, links_at, same_number, is_inner, is_that, given_for, given_by, all_rows, is_number_of, spoiled_for, spoiled_by, all_spoiled}
use Rattle.mc_inst_table.proofs.Linking.{mentioned_links, linked_mentions}
use Rattle.mc_inst_table.proofs.Placing.{apart_places, row_of_place, place_inside, place_found}
use Rattle.mc_inst_table.proofs.Rounds.{parameter_needs, reaches_sized, given_needs, reaches_further}
use Rattle.mc_inst_table.proofs.Flowing.{Step, Spoils, shared_others, spoiled_others, no_others}

-- NUMBERS IN LISTS

in_left : (j : ℕ) (xs ys : List ℕ) → is_in j xs ≡ true → is_in j (xs ++ ys) ≡ true
in_left j [] ys e = absurd (let clash : false ≡ true = e in cc)
in_left j (x ∷ xs) ys e =
    elim (in_cases j x xs e) [
      | inl one ↦ in_head j x (xs ++ ys) one
      | inr rest ↦ in_tail j x (xs ++ ys) (in_left j xs ys rest)
    ]

in_right : (j : ℕ) (xs ys : List ℕ) → is_in j ys ≡ true → is_in j (xs ++ ys) ≡ true
in_right j [] ys e = e
in_right j (x ∷ xs) ys e = in_tail j x (xs ++ ys) (in_right j xs ys e)

in_either : (j : ℕ) (xs ys : List ℕ) → is_in j (xs ++ ys) ≡ true → (is_in j xs ≡ true) ⊎ (is_in j ys ≡ true)
in_either j [] ys e = inr e
in_either j (x ∷ xs) ys e =
    elim (in_cases j x (xs ++ ys) e) [
      | inl one ↦ inl (in_head j x xs one)
      | inr rest ↦ elim (in_either j xs ys rest) [ inl l ↦ inl (in_tail j x xs l) | inr r ↦ inr r ]
    ]

in_if : (b : Bool) (j : ℕ) (xs : List ℕ) → is_in j (if b then xs else []) ≡ true → (b ≡ true) × (is_in j xs ≡ true)
in_if true j xs e = (refl, e)
in_if false j xs e = absurd (let clash : false ≡ true = e in cc)

if_in : (b : Bool) (j : ℕ) (xs : List ℕ) → b ≡ true → is_in j xs ≡ true → is_in j (if b then xs else []) ≡ true
if_in true j xs h e = e
if_in false j xs h e = absurd (let clash : false ≡ true = h in cc)

equal_test : (j : ℕ) → nat_eq j j ≡ true
equal_test j = elim (eqb_tells j j) [ inl one ↦ one.0 | inr other ↦ absurd (other.1 refl) ]

get_some : (xs : List ℕ) (d c : ℕ) → slice_get xs d ≡ Some c → (d < length xs) × (slice_index xs d ≡ c)
get_some [] d c e = absurd (let clash : None ≡ Some c = e in cc)
get_some (x ∷ xs) zero c e = (omega arith, (let same : Some x ≡ Some c = e in cc))
get_some (x ∷ xs) (suc d) c e =
    let rest = get_some xs d c e in
    let less = rest.0 in
    (omega (arith, less), rest.1)

some_get : (xs : List ℕ) (d : ℕ) → d < length xs → slice_get xs d ≡ Some (slice_index xs d)
some_get [] d below = absurd (let h : d < 0 = below in omega arith)
some_get (x ∷ xs) zero below = refl
some_get (x ∷ xs) (suc d) below =
    let h : suc d < suc (length xs) = below in
    let less : d < length xs = omega arith in
    some_get xs d less

-- WHAT IS GIVEN

is_parameter : (i : InstTerm) (j : ℕ) → parameter_of i ≡ Some j → i ≡ parameter j
is_parameter (parameter k) j e = let one : k ≡ j = cc in ap parameter one
is_parameter (inst_node i) j e = absurd (let clash : None ≡ Some j = e in cc)
is_parameter (defined d is) j e = absurd (let clash : None ≡ Some j = e in cc)
is_parameter (bound_over gs is) j e = absurd (let clash : None ≡ Some j = e in cc)

given_within :
    (is : InstTerms) (p : ℕ) (g : Option ℕ)
    → slice_get (given_of is) p ≡ Some g → (p < how_many is) × (g ≡ parameter_of (inst_at is p))
given_within no_insts p g e = absurd (let clash : None ≡ Some g = e in cc)
given_within (inst_then i is) zero g e =
    (omega arith, (let same : Some (parameter_of i) ≡ Some g = e in cc))
given_within (inst_then i is) (suc p) g e =
    let rest = given_within is p g e in
    let less = rest.0 in
    (omega (arith, less), rest.1)

given_at : (is : InstTerms) (p : ℕ) → p < how_many is → slice_get (given_of is) p ≡ Some (parameter_of (inst_at is p))
given_at no_insts p below = absurd (let h : p < 0 = below in omega arith)
given_at (inst_then i is) zero below = refl
given_at (inst_then i is) (suc p) below =
    let h : suc p < suc (how_many is) = below in
    let less : p < how_many is = omega arith in
    given_at is p less

is_that_one : (j : ℕ) (g : Option ℕ) → is_that j g ≡ true → g ≡ Some j
is_that_one j None e = absurd (let clash : false ≡ true = e in cc)
is_that_one j (Some k) e = ap Some (eqb-true k j e)

-- a parameter is given at a place, where the first has a number
abbrev GivenAt : ℕ → ℕ → List (Option ℕ) → ℕ → Type 0
GivenAt j x gs y = (p : ℕ) × (slice_get gs p ≡ Some (Some j)) × (y ≡ x + p)

given_later : (j x : ℕ) (g : Option ℕ) (gs : List (Option ℕ)) (y : ℕ) → GivenAt j (x + 1) gs y → GivenAt j x (g ∷ gs) y
given_later j x g gs y rest = let far = rest.2 in (suc rest.0, rest.1, omega (arith, far))

given_step :
    (b : Bool) (j x : ℕ) (g : Option ℕ) (gs : List (Option ℕ)) (y : ℕ)
    → is_that j g ≡ b
    → (is_in y (given_for j (x + 1) gs) ≡ true → GivenAt j (x + 1) gs y)
    → is_in y (if b then x ∷ given_for j (x + 1) gs else given_for j (x + 1) gs) ≡ true
    → GivenAt j x (g ∷ gs) y
given_step true j x g gs y that rest h =
    elim (in_cases y x (given_for j (x + 1) gs) h) [
      | inl one ↦ (zero, ap Some (is_that_one j g that), (let same : y ≡ x + 0 = omega (arith, one) in same))
      | inr more ↦ given_later j x g gs y (rest more)
    ]
given_step false j x g gs y that rest h = given_later j x g gs y (rest h)

given_in :
    (j x : ℕ) (gs : List (Option ℕ)) (y : ℕ) → is_in y (given_for j x gs) ≡ true → GivenAt j x gs y
given_in j x [] y e = absurd (let clash : false ≡ true = e in cc)
given_in j x (g ∷ gs) y e =
    given_step (is_that j g) j x g gs y refl (λ h. given_in j (x + 1) gs y h) e

given_there :
    (j x : ℕ) (gs : List (Option ℕ)) (p : ℕ)
    → slice_get gs p ≡ Some (Some j) → is_in (x + p) (given_for j x gs) ≡ true
given_there j x [] p e = absurd (let clash : None ≡ Some (Some j) = e in cc)
given_there j x (g ∷ gs) zero e =
    let one : g ≡ Some j = cc in
    let same : x + 0 ≡ x = omega arith in
    subst (λ (h : Option ℕ). is_in (x + 0) (given_for j x (h ∷ gs)) ≡ true) (sym one)
    (subst (λ (b : Bool). is_in (x + 0) (if b then x ∷ given_for j (x + 1) gs else given_for j (x + 1) gs) ≡ true)
    (sym (equal_test j)) (in_head (x + 0) x (given_for j (x + 1) gs) same))
given_there j x (g ∷ gs) (suc p) e =
    let same : (x + 1) + p ≡ x + suc p = omega arith in
    subst (λ (y : ℕ). is_in y (given_for j x (g ∷ gs)) ≡ true) same
    (by (is_that j g) (given_there j (x + 1) gs p e))
  where
    by :
        (b : Bool)
        → is_in ((x + 1) + p) (given_for j (x + 1) gs) ≡ true
        → is_in ((x + 1) + p) (if b then x ∷ given_for j (x + 1) gs else given_for j (x + 1) gs) ≡ true
    by true h = in_tail ((x + 1) + p) x (given_for j (x + 1) gs) h
    by false h = h

-- WHAT IS SPOILED

not_number : (n c : ℕ) → nat_eq n c ≡ false → n ≢ c
not_number n c e = elim (eqb_tells n c) [ inl one ↦ (λ h. (let clash : true ≡ false = sym one.0 ∙ e in cc)) | inr other ↦ other.1 ]

module _ (cs fs : List ℕ) where
  -- something else is given at a place than a parameter of a number, where the first has a number
  abbrev SpoiledAt : (d x : ℕ) → List (Option ℕ) → (c : ℕ) → Type 0
  SpoiledAt d x gs c =
      (p : ℕ) × (g : Option ℕ) × (slice_get gs p ≡ Some g) × (is_number_of cs fs d g c ≡ false)
      × (c ≡ slice_index cs (x + p))

  spoiled_later :
      (d x : ℕ) (g : Option ℕ) (gs : List (Option ℕ)) (c : ℕ)
      → SpoiledAt d (x + 1) gs c → SpoiledAt d x (g ∷ gs) c
  spoiled_later d x g gs c rest =
      let far : (x + 1) + rest.0 ≡ x + suc rest.0 = omega arith in
      (suc rest.0, rest.1, rest.2, rest.3, rest.4 ∙ ap (slice_index cs) far)

  spoiled_step :
      (b : Bool) (d x : ℕ) (g : Option ℕ) (gs : List (Option ℕ)) (c : ℕ)
      → is_number_of cs fs d g (slice_index cs x) ≡ b
      → (is_in c (spoiled_for cs fs d (x + 1) gs) ≡ true → SpoiledAt d (x + 1) gs c)
      → is_in c (if b then spoiled_for cs fs d (x + 1) gs else slice_index cs x ∷ spoiled_for cs fs d (x + 1) gs) ≡ true
      → SpoiledAt d x (g ∷ gs) c
  spoiled_step true d x g gs c same rest h = spoiled_later d x g gs c (rest h)
  spoiled_step false d x g gs c same rest h =
      elim (in_cases c (slice_index cs x) (spoiled_for cs fs d (x + 1) gs) h) [
        | inl one ↦
            let here : x ≡ x + 0 = omega arith in
            (zero, g, refl, ap (is_number_of cs fs d g) one ∙ same, one ∙ ap (slice_index cs) here)
        | inr more ↦ spoiled_later d x g gs c (rest more)
      ]

  spoiled_in :
      (d x : ℕ) (gs : List (Option ℕ)) (c : ℕ)
      → is_in c (spoiled_for cs fs d x gs) ≡ true → SpoiledAt d x gs c
  spoiled_in d x [] c e = absurd (let clash : false ≡ true = e in cc)
  spoiled_in d x (g ∷ gs) c e =
      spoiled_step (is_number_of cs fs d g (slice_index cs x)) d x g gs c refl
      (λ h. spoiled_in d (x + 1) gs c h) e

  spoiled_there :
      (d x : ℕ) (gs : List (Option ℕ)) (p : ℕ) (g : Option ℕ)
      → slice_get gs p ≡ Some g → is_number_of cs fs d g (slice_index cs (x + p)) ≡ false
      → is_in (slice_index cs (x + p)) (spoiled_for cs fs d x gs) ≡ true
  spoiled_there d x [] p g e h = absurd (let clash : None ≡ Some g = e in cc)
  spoiled_there d x (k ∷ gs) zero g e h =
      let one : k ≡ g = cc in
      let here : x + 0 ≡ x = omega arith in
      let same : slice_index cs (x + 0) ≡ slice_index cs x = ap (slice_index cs) here in
      let test : is_number_of cs fs d k (slice_index cs x) ≡ false =
      ap (λ (u : Option ℕ). is_number_of cs fs d u (slice_index cs x)) one
      ∙ ap (is_number_of cs fs d g) (sym same) ∙ h
      in
      subst
      (λ (b : Bool). is_in (slice_index cs (x + 0)) (if b then spoiled_for cs fs d (x + 1) gs else slice_index cs x ∷ spoiled_for cs fs d (x + 1) gs) ≡ true)
      (sym test) (in_head (slice_index cs (x + 0)) (slice_index cs x) (spoiled_for cs fs d (x + 1) gs) same)
  spoiled_there d x (k ∷ gs) (suc p) g e h =
      let same : (x + 1) + p ≡ x + suc p = omega arith in
      let test : is_number_of cs fs d g (slice_index cs ((x + 1) + p)) ≡ false =
      ap (λ (y : ℕ). is_number_of cs fs d g (slice_index cs y)) same ∙ h
      in
      subst (λ (y : ℕ). is_in (slice_index cs y) (spoiled_for cs fs d x (k ∷ gs)) ≡ true) same
      (by (is_number_of cs fs d k (slice_index cs x)) (spoiled_there d (x + 1) gs p g e test))
    where
      by :
          (b : Bool)
          → is_in (slice_index cs ((x + 1) + p)) (spoiled_for cs fs d (x + 1) gs) ≡ true
          → is_in (slice_index cs ((x + 1) + p)) (if b then spoiled_for cs fs d (x + 1) gs else slice_index cs x ∷ spoiled_for cs fs d (x + 1) gs) ≡ true
      by true r = r
      by false r = in_tail (slice_index cs ((x + 1) + p)) (slice_index cs x) (spoiled_for cs fs d (x + 1) gs) r

  module _ (ns : List ℕ) where
    spoiled_by_in :
        (d : ℕ) (ls : List Link) (c : ℕ)
        → is_in c (spoiled_by cs fs ns d ls) ≡ true
        → (l : Link) × LinkIn l ls × (is_inner ns d l.to ≡ true) × (is_in c (spoiled_for cs fs d (place fs l.to 0) l.given) ≡ true)
    spoiled_by_in d [] c e = absurd (let clash : false ≡ true = e in cc)
    spoiled_by_in d (l ∷ ls) c e =
        elim (in_either c (if is_inner ns d l.to then spoiled_for cs fs d (place fs l.to 0) l.given else [])
        (spoiled_by cs fs ns d ls) e) [
          | inl h ↦ (let parts = in_if (is_inner ns d l.to) c (spoiled_for cs fs d (place fs l.to 0) l.given) h in (l, inl refl, parts.0, parts.1))
          | inr h ↦ (let rest = spoiled_by_in d ls c h in (rest.0, inr rest.1, rest.2, rest.3))
        ]

    spoiled_by_there :
        (d : ℕ) (ls : List Link) (l : Link) (c : ℕ)
        → LinkIn l ls → is_inner ns d l.to ≡ true
        → is_in c (spoiled_for cs fs d (place fs l.to 0) l.given) ≡ true → is_in c (spoiled_by cs fs ns d ls) ≡ true
    spoiled_by_there d [] l c m inner h = absurd m
    spoiled_by_there d (k ∷ ls) l c (inl one) inner h =
        in_left c (if is_inner ns d k.to then spoiled_for cs fs d (place fs k.to 0) k.given else []) (spoiled_by cs fs ns d ls)
        (subst (λ (u : Link). is_in c (if is_inner ns d u.to then spoiled_for cs fs d (place fs u.to 0) u.given else []) ≡ true) one
        (if_in (is_inner ns d l.to) c (spoiled_for cs fs d (place fs l.to 0) l.given) inner h))
    spoiled_by_there d (k ∷ ls) l c (inr m) inner h =
        in_right c (if is_inner ns d k.to then spoiled_for cs fs d (place fs k.to 0) k.given else []) (spoiled_by cs fs ns d ls)
        (spoiled_by_there d ls l c m inner h)

    all_spoiled_in :
        (k : ℕ) (all : List (List Link)) (c : ℕ)
        → is_in c (all_spoiled cs fs ns k all) ≡ true
        → (d : ℕ) × (is_in c (spoiled_by cs fs ns (k + d) (links_at all d)) ≡ true)
    all_spoiled_in k [] c e = absurd (let clash : false ≡ true = e in cc)
    all_spoiled_in k (ls ∷ all) c e =
        elim (in_either c (spoiled_by cs fs ns k ls) (all_spoiled cs fs ns (suc k) all) e) [
          | inl h ↦
              let same : k ≡ k + 0 = omega arith in
              (zero, subst (λ (d : ℕ). is_in c (spoiled_by cs fs ns d ls) ≡ true) same h)
          | inr h ↦
              let rest = all_spoiled_in (suc k) all c h in
              let same : suc k + rest.0 ≡ k + suc rest.0 = omega arith in
              (suc rest.0, subst (λ (d : ℕ). is_in c (spoiled_by cs fs ns d (links_at all rest.0)) ≡ true) same rest.1)
        ]

    all_spoiled_there :
        (k : ℕ) (all : List (List Link)) (d c : ℕ)
        → is_in c (spoiled_by cs fs ns (k + d) (links_at all d)) ≡ true → is_in c (all_spoiled cs fs ns k all) ≡ true
    all_spoiled_there k [] d c h = absurd (let clash : false ≡ true = h in cc)
    all_spoiled_there k (ls ∷ all) zero c h =
        let same : k + 0 ≡ k = omega arith in
        in_left c (spoiled_by cs fs ns k ls) (all_spoiled cs fs ns (suc k) all)
        (subst (λ (d : ℕ). is_in c (spoiled_by cs fs ns d ls) ≡ true) same h)
    all_spoiled_there k (ls ∷ all) (suc d) c h =
        let same : k + suc d ≡ suc k + d = omega arith in
        in_right c (spoiled_by cs fs ns k ls) (all_spoiled cs fs ns (suc k) all)
        (all_spoiled_there (suc k) all d c
        (subst (λ (e : ℕ). is_in c (spoiled_by cs fs ns e (links_at all d)) ≡ true) same h))

-- WHAT IS GIVEN BY A DEFINITION

module _ (fs ns : List ℕ) where
  given_by_in :
      (d j : ℕ) (ls : List Link) (y : ℕ)
      → is_in y (given_by fs ns d j ls) ≡ true
      → (l : Link) × LinkIn l ls × (is_inner ns d l.to ≡ true) × (is_in y (given_for j (place fs l.to 0) l.given) ≡ true)
  given_by_in d j [] y e = absurd (let clash : false ≡ true = e in cc)
  given_by_in d j (l ∷ ls) y e =
      elim (in_either y (if is_inner ns d l.to then given_for j (place fs l.to 0) l.given else [])
      (given_by fs ns d j ls) e) [
        | inl h ↦ (let parts = in_if (is_inner ns d l.to) y (given_for j (place fs l.to 0) l.given) h in (l, inl refl, parts.0, parts.1))
        | inr h ↦ (let rest = given_by_in d j ls y h in (rest.0, inr rest.1, rest.2, rest.3))
      ]

  given_by_there :
      (d j : ℕ) (ls : List Link) (l : Link) (y : ℕ)
      → LinkIn l ls → is_inner ns d l.to ≡ true
      → is_in y (given_for j (place fs l.to 0) l.given) ≡ true → is_in y (given_by fs ns d j ls) ≡ true
  given_by_there d j [] l y m inner h = absurd m
  given_by_there d j (k ∷ ls) l y (inl one) inner h =
      in_left y (if is_inner ns d k.to then given_for j (place fs k.to 0) k.given else []) (given_by fs ns d j ls)
      (subst (λ (u : Link). is_in y (if is_inner ns d u.to then given_for j (place fs u.to 0) u.given else []) ≡ true) one
      (if_in (is_inner ns d l.to) y (given_for j (place fs l.to 0) l.given) inner h))
  given_by_there d j (k ∷ ls) l y (inr m) inner h =
      in_right y (if is_inner ns d k.to then given_for j (place fs k.to 0) k.given else []) (given_by fs ns d j ls)
      (given_by_there d j ls l y m inner h)

to_in : (ls : List Link) (e : ℕ) → is_in e (map (λ l. l.to) ls) ≡ true → (l : Link) × LinkIn l ls × (l.to ≡ e)
to_in [] e h = absurd (let clash : false ≡ true = h in cc)
to_in (l ∷ ls) e h =
    elim (in_cases e l.to (map (λ k. k.to) ls) h) [
      | inl one ↦ (l, inl refl, sym one)
      | inr rest ↦ (let more = to_in ls e rest in (more.0, inr more.1, more.2))
    ]

in_to : (ls : List Link) (l : Link) → LinkIn l ls → is_in l.to (map (λ k. k.to) ls) ≡ true
in_to [] l m = absurd m
in_to (k ∷ ls) l (inl one) = in_head l.to k.to (map (λ u. u.to) ls) (ap (λ (u : Link). u.to) one)
in_to (k ∷ ls) l (inr m) = in_tail l.to k.to (map (λ u. u.to) ls) (in_to ls l m)

test_parts : (a b : Option ℕ) → same_number a b ≡ true → (c : ℕ) × (a ≡ Some c) × (b ≡ Some c)
test_parts None b e = absurd (let clash : false ≡ true = e in cc)
test_parts (Some m) None e = absurd (let clash : false ≡ true = e in cc)
test_parts (Some m) (Some n) e = (m, refl, ap Some (sym (eqb-true m n e)))

module _ (body : Bodies) (ws : List ℕ)
    (sized : (d e : ℕ) (is : InstTerms) → Mentions (body d) e is → how_many is ≡ width_at ws e)
    (narrow : (d : ℕ) → needs (body d) ≤ width_at ws d)
    (all : List (List Link)) (linked : (d : ℕ) → links_at all d ≡ links (body d))
    (inner_graph : List (List ℕ)) (rows : (d : ℕ) → steps inner_graph d ≡ map (λ l. l.to) (links (body d)))
    (ns : List ℕ) (numbered : length ns ≡ length inner_graph) (alike : NumbersComponents inner_graph ns) where
  mention_step : (d e : ℕ) (is : InstTerms) → Mentions (body d) e is → is_in e (steps inner_graph d) ≡ true
  mention_step d e is m =
      ap (is_in e) (rows d)
      ∙ in_to (links (body d)) (record { to = e; given = given_of is }) (mentioned_links (body d) e is m)

  way_reaches : (b d e : ℕ) → Way (steps inner_graph) b d e → (ts : InstTerms) × Reaches body d e ts
  way_reaches b d e (step h) =
      let to = to_in (links (body d)) e (ap (is_in e) (sym (rows d)) ∙ h) in
      let one = linked_mentions (body d) to.0 to.1 in
      (one.0, in_body (subst (λ (g : ℕ). Mentions (body d) g one.0) to.2 one.1))
  way_reaches b d e (onward {i = i} less v w) =
      let first = way_reaches b d i v in
      let last = way_reaches b i e w in
      (_, reaches_further body (width_at ws) sized narrow first.0 first.1 last.1)

  reaches_way : (d e : ℕ) (ts : InstTerms) → Reaches body d e ts → Way (steps inner_graph) (length inner_graph) d e
  reaches_way d e ts (in_body m) = step (mention_step d e ts m)
  reaches_way d e ts (in_body_of {e = g} {ts = us} is r m) =
      let last : Way (steps inner_graph) (length inner_graph) g e = step (mention_step g e is m) in
      onward (begins inner_graph (length inner_graph) g e last) (reaches_way d g us r) last

  inner_back : (d e : ℕ) → is_inner ns d e ≡ true → IsOrReaches body e d
  inner_back d e h =
      let parts = test_parts (slice_get ns d) (slice_get ns e) h in
      let at_d = get_some ns d parts.0 parts.1 in
      let at_e = get_some ns e parts.0 parts.2 in
      let within_d = at_d.0 in
      let within_e = at_e.0 in
      let below_d : d < length inner_graph = omega (arith, within_d, numbered) in
      let below_e : e < length inner_graph = omega (arith, within_e, numbered) in
      elim ((alike d e below_d below_e).0 (at_d.1 ∙ sym at_e.1)) [
        | inl one ↦ inl (sym one)
        | inr each ↦
            inr (way_reaches (length inner_graph) e d
            ((reached_by_ways (steps inner_graph) (length inner_graph) e d).0 each.1))
      ]

  back_inner : (d e : ℕ) (is : InstTerms) → Mentions (body d) e is → IsOrReaches body e d → is_inner ns d e ≡ true
  back_inner d e is m back =
      let way : Way (steps inner_graph) (length inner_graph) d e = step (mention_step d e is m) in
      let below_d = begins inner_graph (length inner_graph) d e way in
      let below_e : e < length inner_graph =
      elim back [
        | inl one ↦ subst (λ (g : ℕ). g < length inner_graph) (sym one) below_d
        | inr r ↦ begins inner_graph (length inner_graph) e d (reaches_way e d r.0 r.1)
      ]
      in
      let same : slice_index ns d ≡ slice_index ns e =
      (alike d e below_d below_e).1
      (elim back [
        | inl one ↦ inl (sym one)
        | inr r ↦
            inr (
              (reached_by_ways (steps inner_graph) (length inner_graph) d e).1 way,
              (reached_by_ways (steps inner_graph) (length inner_graph) e d).1 (reaches_way e d r.0 r.1),
            )
      ])
      in
      let within_d : d < length ns = omega (arith, below_d, numbered) in
      let within_e : e < length ns = omega (arith, below_e, numbered) in
      ap (λ (o : Option ℕ). same_number o (slice_get ns e)) (some_get ns d within_d)
      ∙ ap (same_number (Some (slice_index ns d))) (some_get ns e within_e)
      ∙ ap (nat_eq (slice_index ns d)) (sym same)
      ∙ equal_test (slice_index ns d)

  place_more : (e p : ℕ) → place (firsts_from 0 ws) e 0 + p ≡ place (firsts_from 0 ws) e p
  place_more e p = omega arith

  there :
      (d j e p : ℕ)
      → j < width_at ws d → Passes body d j e p
      → is_in (place (firsts_from 0 ws) e p) (steps (all_rows (firsts_from 0 ws) ns 0 ws all) (place (firsts_from 0 ws) d j)) ≡ true
  there d j e p below pass =
      ap (is_in (place (firsts_from 0 ws) e p)) (row_of_place ws ns all d j below ∙ ap (given_by (firsts_from 0 ws) ns d j) (linked d))
      ∙ given_by_there (firsts_from 0 ws) ns d j (links (body d)) (record { to = e; given = given_of pass.given })
      (place (firsts_from 0 ws) e p) (mentioned_links (body d) e pass.given pass.mentioned)
      (back_inner d e pass.given pass.mentioned pass.back)
      (subst (λ (y : ℕ). is_in y (given_for j (place (firsts_from 0 ws) e 0) (given_of pass.given)) ≡ true) (place_more e p)
      (given_there j (place (firsts_from 0 ws) e 0) (given_of pass.given) p
      (given_at pass.given p pass.within ∙ ap (λ i. Some (parameter_of i)) pass.is_given)))

  means :
      (x y : ℕ)
      → is_in y (steps (all_rows (firsts_from 0 ws) ns 0 ws all) x) ≡ true
      → Step body (width_at ws) sized narrow (all_rows (firsts_from 0 ws) ns 0 ws all) (place (firsts_from 0 ws)) (apart_places ws) there x y
  means x y h =
      let found = place_found ws ns all x (inside (all_rows (firsts_from 0 ws) ns 0 ws all) x y h) in
      let d = found.0 in
      let j = found.1 in
      let row : steps (all_rows (firsts_from 0 ws) ns 0 ws all) x ≡ given_by (firsts_from 0 ws) ns d j (links (body d)) =
      ap (steps (all_rows (firsts_from 0 ws) ns 0 ws all)) found.3
      ∙ row_of_place ws ns all d j found.2 ∙ ap (given_by (firsts_from 0 ws) ns d j) (linked d)
      in
      let by = given_by_in (firsts_from 0 ws) ns d j (links (body d)) y (ap (is_in y) (sym row) ∙ h) in
      let one = linked_mentions (body d) by.0 by.1 in
      let at = given_in j (place (firsts_from 0 ws) by.0.to 0) by.0.given y by.3 in
      let given = given_within one.0 at.0 (Some j) (ap (λ gs. slice_get gs at.0) (sym one.2) ∙ at.1) in
      record {
        from = d;
        which = j;
        to = by.0.to;
        onto = at.0;
        first = found.3;
        last = at.2 ∙ place_more by.0.to at.0;
        below = found.2;
        passes = record {
          given = one.0;
          mentioned = one.1;
          back = inner_back d by.0.to by.2;
          within = given.0;
          is_given = is_parameter (inst_at one.0 at.0) j (sym given.1);
        };
      }

  module _ (cs : List ℕ) (same_numbers : NumbersComponents (all_rows (firsts_from 0 ws) ns 0 ws all) cs) where
    abbrev number : (d j : ℕ) → ℕ
    number d j = slice_index cs (place (firsts_from 0 ws) d j)

    abbrev spoiled : List ℕ
    spoiled = all_spoiled cs (firsts_from 0 ws) ns 0 all

    pub shared_told :
        (d p q : ℕ)
        → p < width_at ws d → q < width_at ws d → p ≢ q → number d p ≡ number d q → ReachesOthers body (width_at ws d) d
    shared_told =
        shared_others body (width_at ws) sized narrow (all_rows (firsts_from 0 ws) ns 0 ws all) (place (firsts_from 0 ws))
        (apart_places ws) there means cs same_numbers (place_inside ws ns all)

    none_of : (f j c : ℕ) (g : Option ℕ) → g ≡ Some j → is_number_of cs (firsts_from 0 ws) f g c ≡ false → number f j ≢ c
    none_of f j c g one h =
        not_number (number f j) c (ap (λ (u : Option ℕ). is_number_of cs (firsts_from 0 ws) f u c) (sym one) ∙ h)

    pub spoiled_told :
        (d q : ℕ) → q < width_at ws d → is_in (number d q) spoiled ≡ true → ReachesOthers body (width_at ws d) d
    spoiled_told d q below h =
        let c = number d q in
        let some = all_spoiled_in cs (firsts_from 0 ws) ns 0 all c h in
        let f = some.0 in
        let none : 0 + f ≡ f = omega arith in
        let here : is_in c (spoiled_by cs (firsts_from 0 ws) ns f (links (body f))) ≡ true =
        ap (λ ls. is_in c (spoiled_by cs (firsts_from 0 ws) ns f ls)) (sym (linked f))
        ∙ ap (λ (g : ℕ). is_in c (spoiled_by cs (firsts_from 0 ws) ns g (links_at all f))) (sym none)
        ∙ some.1
        in
        let by = spoiled_by_in cs (firsts_from 0 ws) ns f (links (body f)) c here in
        let e = by.0.to in
        let one = linked_mentions (body f) by.0 by.1 in
        let at = spoiled_in cs (firsts_from 0 ws) f (place (firsts_from 0 ws) e 0) by.0.given c by.3 in
        let given = given_within one.0 at.0 at.1 (ap (λ gs. slice_get gs at.0) (sym one.2) ∙ at.2) in
        let same : c ≡ number e at.0 = at.4 ∙ ap (slice_index cs) (place_more e at.0) in
        spoiled_others body (width_at ws) sized narrow (all_rows (firsts_from 0 ws) ns 0 ws all) (place (firsts_from 0 ws))
        (apart_places ws) there means cs same_numbers (place_inside ws ns all) d q f e at.0 below
        (record {
          given = one.0;
          mentioned = one.1;
          back = inner_back f e by.2;
          within = given.0;
          other =
              λ j is_given alike_one.
              none_of f j c at.1 (given.1 ∙ ap parameter_of is_given) at.3 (alike_one ∙ sym same);
        })
        (sym same)

    abbrev IsGood : ℕ → Type 0
    IsGood c = is_in c spoiled ≡ true → ⊥

    good_by :
        (f e p : ℕ) (is : InstTerms) (g : Option ℕ) (b : Bool)
        → Mentions (body f) e is → IsOrReaches body e f → p < how_many is → IsGood (number e p)
        → g ≡ parameter_of (inst_at is p) → is_number_of cs (firsts_from 0 ws) f g (number e p) ≡ b
        → (j : ℕ) × (j < width_at ws f) × (inst_at is p ≡ parameter j) × (number f j ≡ number e p)
    good_by f e p is None true m back within well at test = absurd (let clash : false ≡ true = test in cc)
    good_by f e p is (Some j) true m back within well at test =
        let is_given = is_parameter (inst_at is p) j (sym at) in
        let needed = parameter_needs is p j within is_given in
        let most = given_needs body (width_at ws) sized narrow f e is m in
        (j, omega (arith, needed, most), is_given, eqb-true (number f j) (number e p) test)
    good_by f e p is g false m back within well at test =
        let there_by = place_more e p in
        let off : is_number_of cs (firsts_from 0 ws) f g (slice_index cs (place (firsts_from 0 ws) e 0 + p)) ≡ false =
        ap (λ (y : ℕ). is_number_of cs (firsts_from 0 ws) f g (slice_index cs y)) there_by ∙ test
        in
        let none : f ≡ 0 + f = omega arith in
        let within_all : is_in (number e p) spoiled ≡ true =
        all_spoiled_there cs (firsts_from 0 ws) ns 0 all f (number e p)
        (subst (λ (h : ℕ). is_in (number e p) (spoiled_by cs (firsts_from 0 ws) ns h (links_at all f)) ≡ true) none
        (ap (λ ls. is_in (number e p) (spoiled_by cs (firsts_from 0 ws) ns f ls)) (linked f)
        ∙ spoiled_by_there cs (firsts_from 0 ws) ns f (links (body f)) (record { to = e; given = given_of is }) (number e p)
        (mentioned_links (body f) e is m) (back_inner f e is m back)
        (subst (λ (y : ℕ). is_in (slice_index cs y) (spoiled_for cs (firsts_from 0 ws) f (place (firsts_from 0 ws) e 0) (given_of is)) ≡ true) there_by
        (spoiled_there cs (firsts_from 0 ws) f (place (firsts_from 0 ws) e 0) (given_of is) p g
        (given_at is p within ∙ ap Some (sym at)) off))))
        in
        absurd (well within_all)

    pub none_told :
        (d : ℕ)
        → ((p : ℕ) → p < width_at ws d → is_in (number d p) spoiled ≡ true → ⊥)
        → ((p q : ℕ) → p < width_at ws d → q < width_at ws d → number d p ≡ number d q → p ≡ q)
        → ReachesOthers body (width_at ws d) d → ⊥
    none_told =
        no_others body (width_at ws) sized narrow (all_rows (firsts_from 0 ws) ns 0 ws all) (place (firsts_from 0 ws))
        (apart_places ws) there means cs same_numbers (place_inside ws ns all) IsGood
        (λ f e p is m back within well.
        good_by f e p is (parameter_of (inst_at is p))
        (is_number_of cs (firsts_from 0 ws) f (parameter_of (inst_at is p)) (number e p)) m back within well refl refl)
