-- What insts put into constructors.
use Rattle.std.proofs.Common.{◌≡◌, ◌⊎◌, ◌↔◌, inl, inr, ℕ, zero, suc, Bool, true, false, ◌<◌, List, [], ◌∷◌, ◌++◌, length, get_or, set, refl, sym, ap, ◌∙◌, subst, arith}
use Rattle.std.proofs.lemmas.Bool.{cases_lt}
use Rattle.std.proofs.lemmas.Bool.Decides.{eqb_tells}
use Rattle.std.proofs.lemmas.List.{get_or-set_same, get_or-set_other}
use Rattle.mc_model.specs.Lists.{is_in}
use Rattle.mc_components.proofs.Certified.{in_head, in_tail, in_cases}
use Rattle.mc_accepted.specs.InstRules.{InstTerm, parameter, inst_node, defined, bound_over, InstTerms, no_insts, inst_then, inst_at, Bodies, ComesTo, OneIs, PutsInside, listed, given, in_listed, in_given}
use Rattle.mc_inst_table.specs.declared.inst.Inst.{Inst}
use Rattle.mc_inst_table.specs.Plain.{plain_inst}
use Rattle.mc_inst_table.specs.declared.heads.Head.{Head}
use Rattle.mc_inst_table.specs.declared.heads.Head.TheVariants as H
use Rattle.mc_inst_table.specs.code.Ends.{IsFull, AreFull, end_at, end_of, ends, Ends, head_at, AreHeads, AreSettled, IsName, IsHead, bodies_of}
use Rattle.mc_inst_table.specs.code.Insides.{inside_at, ends_at, put_ends, all_put_ends, HeadIn, AreInside, AreClosed, PutsEnd, SameParameters, AllNone}
use Rattle.mc_inst_table.proofs.Finding.{body_there, body_past}
use Rattle.mc_inst_table.proofs.Coming.{at_full, end_comes, end_told, end_of_at}

pub head_left : (h : Head) (gs hs : List Head) → HeadIn h gs → HeadIn h (gs ++ hs)
head_left h [] hs m = absurd m
head_left h (g ∷ gs) hs (inl one) = inl one
head_left h (g ∷ gs) hs (inr m) = inr (head_left h gs hs m)

pub head_right : (h : Head) (gs hs : List Head) → HeadIn h hs → HeadIn h (gs ++ hs)
head_right h [] hs m = m
head_right h (g ∷ gs) hs m = inr (head_right h gs hs m)

pub head_either : (h : Head) (gs hs : List Head) → HeadIn h (gs ++ hs) → HeadIn h gs ⊎ HeadIn h hs
head_either h [] hs m = inr m
head_either h (g ∷ gs) hs (inl one) = inl (inl one)
head_either h (g ∷ gs) hs (inr m) =
    elim (head_either h gs hs m) [ inl l ↦ inl (inr l) | inr r ↦ inr r ]

-- what stands at a place among ends
at_place :
    (hs : List Head) (ks : List ℕ) (k : ℕ) → is_in k ks ≡ true → HeadIn (end_at hs k) (ends_at hs ks)
at_place hs [] k e = absurd (let clash : false ≡ true = e in cc)
at_place hs (j ∷ ks) k e =
    elim (in_cases k j ks e) [
      | inl one ↦ inl (ap (end_at hs) one)
      | inr rest ↦ inr (at_place hs ks k rest)
    ]

place_of_end :
    (hs : List Head) (ks : List ℕ) (h : Head)
    → HeadIn h (ends_at hs ks) → (k : ℕ) × (is_in k ks ≡ true) × (h ≡ end_at hs k)
place_of_end hs [] h m = absurd m
place_of_end hs (j ∷ ks) h (inl one) = (j, in_head j j ks refl, one)
place_of_end hs (j ∷ ks) h (inr m) =
    let rest = place_of_end hs ks h m in
    (rest.0, in_tail rest.0 j ks rest.1, rest.2)

-- whose end it is
one_ends :
    (heads : ℕ → Head) (is : InstTerms) (h : Head)
    → HeadIn h (ends heads is) → (j : InstTerm) × OneIs is j × (h ≡ end_of heads j)
one_ends heads no_insts h m = absurd m
one_ends heads (inst_then i is) h (inl one) = (i, inl refl, one)
one_ends heads (inst_then i is) h (inr m) =
    let rest = one_ends heads is h m in
    (rest.0, inr rest.1, rest.2)

end_there : (heads : ℕ → Head) (is : InstTerms) (j : InstTerm) → OneIs is j → HeadIn (end_of heads j) (ends heads is)
end_there heads no_insts j m = absurd m
end_there heads (inst_then i is) j (inl one) = inl (ap (end_of heads) (sym one))
end_there heads (inst_then i is) j (inr m) = inr (end_there heads is j m)

one_full : (body : Bodies) (is : InstTerms) (j : InstTerm) → AreFull body is → OneIs is j → IsFull body j
one_full body no_insts j f m = absurd m
one_full body (inst_then i is) j f (inl one) = subst (IsFull body) one f.0
one_full body (inst_then i is) j f (inr m) = one_full body is j f.1 m

put_there :
    (heads : ℕ → Head) (inside : ℕ → List ℕ) (is : InstTerms) (j : InstTerm) (h : Head)
    → OneIs is j → HeadIn h (put_ends heads inside j) → HeadIn h (all_put_ends heads inside is)
put_there heads inside no_insts j h m p = absurd m
put_there heads inside (inst_then i is) j h (inl one) p =
    head_left h (put_ends heads inside i) (all_put_ends heads inside is)
    (subst (λ u. HeadIn h (put_ends heads inside u)) (sym one) p)
put_there heads inside (inst_then i is) j h (inr m) p =
    head_right h (put_ends heads inside i) (all_put_ends heads inside is)
    (put_there heads inside is j h m p)

abbrev OnePuts : Bodies → InstTerms → Type 0
OnePuts body is = (i : InstTerm) × OneIs is i × PutsInside body i (inst_node 0)

-- the end that an inst is at which is no name
abbrev headed : InstTerm → Head
headed (parameter k) = H.Parameter k
headed (inst_node i) = H.Node i
headed (defined d is) = H.Unknown
headed (bound_over gs is) = H.Bound

head_is : (x : InstTerm) (h : Head) → IsHead x h → h ≡ headed x
head_is x (H.Parameter k) is = sym (ap headed is)
head_is x (H.Node i) is = sym (ap headed is)
head_is x H.Bound is = sym (ap headed is.2)
head_is x H.Unknown is = absurd is

end_put :
    (body : Bodies) (t j : InstTerm) (h : Head)
    → ((x : InstTerm) → ComesTo body j x → PutsInside body t x) → Ends body j h → PutsEnd body t h
end_put body t j (H.Parameter k) f e = f (parameter k) e
end_put body t j (H.Node i) f e = f (inst_node i) e
end_put body t j H.Bound f e = tt
end_put body t j H.Unknown f e = tt

end_kept :
    (body : Bodies) (t j : InstTerm) (h : Head)
    → ((x : InstTerm) → PutsInside body j x → PutsInside body t x) → PutsEnd body j h → PutsEnd body t h
end_kept body t j (H.Parameter k) f e = f (parameter k) e
end_kept body t j (H.Node i) f e = f (inst_node i) e
end_kept body t j H.Bound f e = tt
end_kept body t j H.Unknown f e = tt

module _ (body : Bodies) (full : (d : ℕ) → IsFull body (body d))
    (heads : List Head) (are : AreHeads body heads) where
  module _ (inside : List (List ℕ)) (known : AreInside body inside) where
    mutual
      pub puts :
          (t : InstTerm) (h : Head)
          → HeadIn h (put_ends (head_at heads) (inside_at inside) t) → PutsEnd body t h
      puts (parameter k) h m = absurd m
      puts (inst_node i) h m = absurd m
      puts (defined d is) h m =
          elim (head_either h (ends_at (ends (head_at heads) is) (inside_at inside d))
          (all_put_ends (head_at heads) (inside_at inside) is) m) [
            | inl l ↦
                let place = place_of_end (ends (head_at heads) is) (inside_at inside d) h l in
                let same : end_of (head_at heads) (inst_at is place.0) ≡ h =
                sym (end_of_at (head_at heads) is place.0) ∙ sym place.2
                in
                end_put body (defined d is) (inst_at is place.0) h
                (λ x c. given (known d place.0 place.1) c)
                (subst (Ends body (inst_at is place.0)) same
                (end_comes body full heads are (inst_at is place.0)))
            | inr r ↦
                let one = puts_one is h r in
                end_kept body (defined d is) one.0 h (λ x p. in_given one.1 p) one.2
          ]
      puts (bound_over gs is) h m =
          elim (head_either h (ends (head_at heads) is)
          (all_put_ends (head_at heads) (inside_at inside) is) m) [
            | inl l ↦
                let one = one_ends (head_at heads) is h l in
                end_put body (bound_over gs is) one.0 h (λ x c. listed one.1 c)
                (subst (Ends body one.0) (sym one.2) (end_comes body full heads are one.0))
            | inr r ↦
                let one = puts_one is h r in
                end_kept body (bound_over gs is) one.0 h (λ x p. in_listed one.1 p) one.2
          ]

      puts_one :
          (is : InstTerms) (h : Head)
          → HeadIn h (all_put_ends (head_at heads) (inside_at inside) is)
          → (j : InstTerm) × OneIs is j × PutsEnd body j h
      puts_one no_insts h m = absurd m
      puts_one (inst_then i is) h m =
          elim (head_either h (put_ends (head_at heads) (inside_at inside) i)
          (all_put_ends (head_at heads) (inside_at inside) is) m) [
            | inl l ↦ (i, inl refl, puts i h l)
            | inr r ↦ let rest = puts_one is h r in (rest.0, inr rest.1, rest.2)
          ]

    module _ (settled : AreSettled body heads) (closed : AreClosed body (head_at heads) inside) where
      end_is :
          (j x : InstTerm)
          → IsFull body j → (IsName x → ⊥) → ComesTo body j x → end_of (head_at heads) j ≡ headed x
      end_is j x f stuck c =
          head_is x (end_of (head_at heads) j) (end_told body full heads are settled j x f stuck c)

      pub put_told :
          (t x : InstTerm)
          → IsFull body t → (IsName x → ⊥) → PutsInside body t x
          → HeadIn (headed x) (put_ends (head_at heads) (inside_at inside) t)
      put_told t x f stuck (listed {is = is} {j = j} one c) =
          head_left (headed x) (ends (head_at heads) is) (all_put_ends (head_at heads) (inside_at inside) is)
          (subst (λ h. HeadIn h (ends (head_at heads) is))
          (end_is j x (one_full body is j f one) stuck c) (end_there (head_at heads) is j one))
      put_told t x f stuck (given {d = d} {k = k} {is = is} p c) =
          let within = closed d k (put_told (body d) (parameter k) (full d) (λ h. h) p) in
          let same : end_at (ends (head_at heads) is) k ≡ headed x =
          end_of_at (head_at heads) is k
          ∙ end_is (inst_at is k) x (at_full body is k f.1) stuck c
          in
          head_left (headed x) (ends_at (ends (head_at heads) is) (inside_at inside d))
          (all_put_ends (head_at heads) (inside_at inside) is)
          (subst (λ h. HeadIn h (ends_at (ends (head_at heads) is) (inside_at inside d))) same
          (at_place (ends (head_at heads) is) (inside_at inside d) k within))
      put_told t x f stuck (in_listed {is = is} {j = j} one p) =
          head_right (headed x) (ends (head_at heads) is) (all_put_ends (head_at heads) (inside_at inside) is)
          (put_there (head_at heads) (inside_at inside) is j (headed x) one
          (put_told j x (one_full body is j f one) stuck p))
      put_told t x f stuck (in_given {d = d} {is = is} {j = j} one p) =
          head_right (headed x) (ends_at (ends (head_at heads) is) (inside_at inside d))
          (all_put_ends (head_at heads) (inside_at inside) is)
          (put_there (head_at heads) (inside_at inside) is j (headed x) one
          (put_told j x (one_full body is j f.1 one) stuck p))

      one_told :
          (is : InstTerms)
          → AreFull body is → OnePuts body is
          → HeadIn (H.Node 0) (all_put_ends (head_at heads) (inside_at inside) is)
      one_told is f m =
          put_there (head_at heads) (inside_at inside) is m.0 (H.Node 0) m.1
          (put_told m.0 (inst_node 0) (one_full body is m.0 f m.1) (λ h. h) m.2)

      pub free_told :
          (is : InstTerms)
          → AreFull body is
          → HeadIn (H.Node 0) (all_put_ends (head_at heads) (inside_at inside) is) ↔ OnePuts body is
      free_told is f = (puts_one is (H.Node 0), one_told is f)

-- WHAT IS KEPT, by the numbers of definitions

is_in_none : (d k : ℕ) (n : List (List ℕ)) → AllNone n → is_in k (inside_at n d) ≡ true → ⊥
is_in_none d k [] all e = let clash : false ≡ true = e in cc
is_in_none zero k (row ∷ rows) all e =
    let clash : is_in k [] ≡ true = ap (is_in k) (sym all.0) ∙ e in
    let clash2 : false ≡ true = clash in
    cc
is_in_none (suc d) k (row ∷ rows) all e = is_in_none d k rows all.1 e

pub none_inside : (body : Bodies) (n : List (List ℕ)) → AllNone n → AreInside body n
none_inside body n all d k e = absurd (is_in_none d k n all e)

pub none_more : (n : List (List ℕ)) → AllNone n → AllNone (n ++ [] ∷ [])
none_more [] all = (refl, tt)
none_more (row ∷ rows) all = (all.0, none_more rows all.1)

pub one_inside :
    (is : List Inst) (heads : List Head) (n : List (List ℕ)) (d : ℕ) (i : Inst) (ks : List ℕ)
    → ((k : ℕ) → IsFull (bodies_of is) (bodies_of is k)) → AreHeads (bodies_of is) heads
    → AreInside (bodies_of is) n → length n ≡ length is → d < length is → i ≡ get_or is d i
    → SameParameters ks (put_ends (head_at heads) (inside_at n) (plain_inst i))
    → AreInside (bodies_of is) (set n d ks)
one_inside is heads n d i ks full are known count below at same e k m =
    let there : d < length n = omega (arith, count, below) in
    elim (eqb_tells e d) [
      | inl one ↦
          let here : inside_at (set n d ks) d ≡ ks = get_or-set_same n d ks [] there in
          let within : is_in k ks ≡ true =
          ap (is_in k) (sym here)
          ∙ ap (λ (j : ℕ). is_in k (inside_at (set n d ks) j)) (sym one.1)
          ∙ m
          in
          let put : PutsInside (bodies_of is) (plain_inst i) (parameter k) =
          puts (bodies_of is) full heads are n known (plain_inst i) (H.Parameter k) ((same k).0 within)
          in
          let at_d : PutsInside (bodies_of is) (bodies_of is d) (parameter k) =
          subst (λ t. PutsInside (bodies_of is) t (parameter k)) (sym (body_there is d i below at)) put
          in
          subst (λ (j : ℕ). PutsInside (bodies_of is) (bodies_of is j) (parameter k)) (sym one.1) at_d
      | inr other ↦
          known e k (ap (is_in k) (sym (get_or-set_other n d e ks [] other.1)) ∙ m)
    ]

pub all_closed :
    (is : List Inst) (heads : ℕ → Head) (n : List (List ℕ))
    → length n ≡ length is
    → ((d : ℕ) → d < length is → (k : ℕ)
    → HeadIn (H.Parameter k) (put_ends heads (inside_at n) (bodies_of is d)) → is_in k (inside_at n d) ≡ true)
    → AreClosed (bodies_of is) heads n
all_closed is heads n count each d k m =
    elim (cases_lt d (length is)) [
      | inl below ↦ each d below k m
      | inr past ↦
          absurd
          (subst (λ t. HeadIn (H.Parameter k) (put_ends heads (inside_at n) t)) (body_past is d past) m)
    ]
