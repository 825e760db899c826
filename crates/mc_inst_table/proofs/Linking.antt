-- The definitions that stand in insts, one behind another.
use Rattle.std.proofs.Common.{◌≡◌, ◌⊎◌, inl, inr, ℕ, zero, suc, ◌+◌, ◌<◌, List, [], ◌∷◌, ◌++◌, length, get_or, drop, append_assoc, refl, sym, ap, ◌∙◌, subst, arith}
use Rattle.std.specs.Prelude.{Option, Some, None}
use Rattle.std.proofs.lemmas.List.{at_drop_more}
use Rattle.mc_accepted.specs.InstRules.{InstTerm, parameter, inst_node, defined, bound_over, InstTerms, no_insts, inst_then, Mentions, OneMentions}
use Rattle.mc_inst_table.specs.declared.inst.Inst.{Inst}
use Rattle.mc_inst_table.specs.declared.links.Link.{Link}
use Rattle.mc_inst_table.specs.Plain.{plain_inst, plain_insts}
use Rattle.mc_inst_table.specs.code.Links.{parameter_of, given_of, links, all_links, LinkIn}

pub links_more :
    (xs : List Link) (is : List Inst) (k : ℕ) (i : Inst)
    → k < length is → i ≡ get_or is k i
    → xs ++ all_links (plain_insts (drop k is))
    ≡ (xs ++ links (plain_inst i)) ++ all_links (plain_insts (drop (k + 1) is))
links_more xs is k i below at =
    let rest = all_links (plain_insts (drop (k + 1) is)) in
    at_drop_more (λ us. xs ++ all_links (plain_insts us)) is k i below
    ∙ ap (λ (u : Inst). xs ++ (links (plain_inst u) ++ rest)) (sym at)
    ∙ sym (append_assoc xs (links (plain_inst i)) rest)

pub given_more :
    (xs : List (Option ℕ)) (is : List Inst) (k : ℕ) (i : Inst)
    → k < length is → i ≡ get_or is k i
    → xs ++ given_of (plain_insts (drop k is))
    ≡ (xs ++ parameter_of (plain_inst i) ∷ []) ++ given_of (plain_insts (drop (k + 1) is))
given_more xs is k i below at =
    let rest = given_of (plain_insts (drop (k + 1) is)) in
    at_drop_more (λ us. xs ++ given_of (plain_insts us)) is k i below
    ∙ ap (λ (u : Inst). xs ++ (parameter_of (plain_inst u) ∷ rest)) (sym at)
    ∙ sym (append_assoc xs (parameter_of (plain_inst i) ∷ []) rest)

-- WHAT STANDS IN AN INST is what it mentions

in_left : (l : Link) (xs ys : List Link) → LinkIn l xs → LinkIn l (xs ++ ys)
in_left l [] ys m = absurd m
in_left l (x ∷ xs) ys (inl one) = inl one
in_left l (x ∷ xs) ys (inr m) = inr (in_left l xs ys m)

in_right : (l : Link) (xs ys : List Link) → LinkIn l ys → LinkIn l (xs ++ ys)
in_right l [] ys m = m
in_right l (x ∷ xs) ys m = inr (in_right l xs ys m)

in_either : (l : Link) (xs ys : List Link) → LinkIn l (xs ++ ys) → LinkIn l xs ⊎ LinkIn l ys
in_either l [] ys m = inr m
in_either l (x ∷ xs) ys (inl one) = inl (inl one)
in_either l (x ∷ xs) ys (inr m) =
    elim (in_either l xs ys m) [ inl first ↦ inl (inr first) | inr rest ↦ inr rest ]

mutual
  pub mentioned_links :
      (t : InstTerm) (e : ℕ) (is : InstTerms)
      → Mentions t e is → LinkIn (record { to = e; given = given_of is }) (links t)
  mentioned_links (parameter k) e is m = absurd m
  mentioned_links (inst_node i) e is m = absurd m
  mentioned_links (defined d us) e is (inl one) =
      inl (ap (λ (g : ℕ). record { to = g; given = given_of is }) (sym one.0)
      ∙ ap (λ vs. record { to = d; given = given_of vs }) (sym one.1))
  mentioned_links (defined d us) e is (inr m) = inr (all_mentioned us e is m)
  mentioned_links (bound_over gs us) e is m = all_mentioned us e is m

  all_mentioned :
      (us : InstTerms) (e : ℕ) (is : InstTerms)
      → OneMentions us e is → LinkIn (record { to = e; given = given_of is }) (all_links us)
  all_mentioned no_insts e is m = absurd m
  all_mentioned (inst_then u us) e is (inl m) =
      in_left (record { to = e; given = given_of is }) (links u) (all_links us) (mentioned_links u e is m)
  all_mentioned (inst_then u us) e is (inr m) =
      in_right (record { to = e; given = given_of is }) (links u) (all_links us) (all_mentioned us e is m)

mutual
  pub linked_mentions :
      (t : InstTerm) (l : Link)
      → LinkIn l (links t) → (is : InstTerms) × Mentions t l.to is × (l.given ≡ given_of is)
  linked_mentions (parameter k) l m = absurd m
  linked_mentions (inst_node i) l m = absurd m
  linked_mentions (defined d us) l (inl one) =
      (us, inl (ap (λ (k : Link). k.to) (sym one), refl), ap (λ (k : Link). k.given) one)
  linked_mentions (defined d us) l (inr m) =
      let rest = all_linked us l m in
      (rest.0, inr rest.1, rest.2)
  linked_mentions (bound_over gs us) l m = all_linked us l m

  all_linked :
      (us : InstTerms) (l : Link)
      → LinkIn l (all_links us) → (is : InstTerms) × OneMentions us l.to is × (l.given ≡ given_of is)
  all_linked no_insts l m = absurd m
  all_linked (inst_then u us) l m =
      elim (in_either l (links u) (all_links us) m) [
        | inl first ↦ (let one = linked_mentions u l first in (one.0, inl one.1, one.2))
        | inr rest ↦ (let one = all_linked us l rest in (one.0, inr one.1, one.2))
      ]
