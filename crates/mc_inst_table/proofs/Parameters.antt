-- Parameters among the ends of insts.
use Rattle.std.proofs.Common.{◌≡◌, ◌⊎◌, ◌↔◌, inl, inr, ℕ, zero, suc, ◌+◌, ◌<◌, Bool, true, false, ◌&&◌, List, [], ◌∷◌, ◌++◌, map, length, get_or, drop, append_assoc, refl, sym, ap, ◌∙◌, subst, arith}
use Rattle.std.specs.Prelude.{nat_eq, if◌then◌else◌}
use Rattle.std.proofs.lemmas.Bool.{or_cases, or_left, or_right}
use Rattle.std.proofs.lemmas.Bool.Decides.{eqb_tells}
use Rattle.std.proofs.lemmas.List.{at_drop_more}
use Rattle.mc_model.specs.Lists.{is_in}
use Rattle.mc_components.proofs.Certified.{in_head, in_tail, in_cases}
use Rattle.mc_inst_table.specs.declared.inst.Inst.{Inst}
use Rattle.mc_inst_table.specs.declared.heads.Head.{Head}
use Rattle.mc_inst_table.specs.declared.heads.Head.TheVariants as H
use Rattle.mc_inst_table.specs.Plain.{plain_inst, plain_insts}
use Rattle.mc_inst_table.specs.code.Ends.{end_of, ends, bodies_of}
use Rattle.mc_inst_table.specs.code.Insides.{inside_at, put_ends, all_put_ends, HeadIn, SameParameters, all_in, once_more, gathered, is_free_end, has_free_end}
use Rattle.mc_inst_table.proofs.Finding.{body_there}

in_left : (j : ℕ) (xs ys : List ℕ) → is_in j xs ≡ true → is_in j (xs ++ ys) ≡ true
in_left j [] ys e = absurd (let clash : false ≡ true = e in cc)
in_left j (x ∷ xs) ys e =
    elim (in_cases j x xs e) [
      | inl one ↦ in_head j x (xs ++ ys) one
      | inr rest ↦ in_tail j x (xs ++ ys) (in_left j xs ys rest)
    ]

in_last : (k : ℕ) (xs : List ℕ) → is_in k (xs ++ k ∷ []) ≡ true
in_last k [] = in_head k k [] refl
in_last k (x ∷ xs) = in_tail k x (xs ++ k ∷ []) (in_last k xs)

in_either : (j k : ℕ) (xs : List ℕ) → is_in j (xs ++ k ∷ []) ≡ true → (j ≡ k) ⊎ (is_in j xs ≡ true)
in_either j k [] e = elim (in_cases j k [] e) [ inl one ↦ inl one | inr rest ↦ absurd (let clash : false ≡ true = rest in cc) ]
in_either j k (x ∷ xs) e =
    elim (in_cases j x (xs ++ k ∷ []) e) [
      | inl one ↦ inr (in_head j x xs one)
      | inr rest ↦ elim (in_either j k xs rest) [ inl one ↦ inl one | inr there ↦ inr (in_tail j x xs there) ]
    ]

once_by :
    (b : Bool) (j k : ℕ) (ks : List ℕ)
    → (b ≡ true → is_in j ks ≡ true)
    → (is_in k (if b then ks else ks ++ j ∷ []) ≡ true) ↔ ((k ≡ j) ⊎ (is_in k ks ≡ true))
once_by true j k ks there = (
  inr,
  λ m. elim m [
    | inl one ↦ subst (λ (i : ℕ). is_in i ks ≡ true) (sym one) (there refl)
    | inr e ↦ e
  ],
)
once_by false j k ks there = (
  in_either k j ks,
  λ m. elim m [
    | inl one ↦ subst (λ (i : ℕ). is_in i (ks ++ j ∷ []) ≡ true) (sym one) (in_last j ks)
    | inr e ↦ in_left k ks (j ∷ []) e
  ],
)

abbrev IsOneOf : ℕ → List ℕ → List Head → Type 0
IsOneOf k ks hs = (is_in k ks ≡ true) ⊎ HeadIn (H.Parameter k) hs

gathered_adds :
    (hs : List Head) (ks : List ℕ) (k : ℕ) → (is_in k (gathered ks hs) ≡ true) ↔ IsOneOf k ks hs
gathered_adds [] ks k = (inl, λ m. elim m [ inl e ↦ e | inr none ↦ absurd none ])
gathered_adds (H.Parameter j ∷ hs) ks k =
    let rest = gathered_adds hs (once_more j ks) k in
    let once = once_by (is_in j ks) j k ks (λ e. e) in (
      λ e. elim (rest.0 e) [
        | inl there ↦ elim (once.0 there) [
          | inl one ↦ inr (inl (ap H.Parameter one))
          | inr before ↦ inl before
        ]
        | inr later ↦ inr (inr later)
      ],
      λ m. rest.1 (elim m [
        | inl before ↦ inl (once.1 (inr before))
        | inr found ↦ elim found [
          | inl one ↦ (let number : k ≡ j = cc in inl (once.1 (inl number)))
          | inr later ↦ inr later
        ]
      ]),
    )
gathered_adds (H.Node i ∷ hs) ks k =
    let rest = gathered_adds hs ks k in (
      λ e. elim (rest.0 e) [ inl there ↦ inl there | inr later ↦ inr (inr later) ],
      λ m. rest.1 (elim m [ inl there ↦ inl there | inr found ↦ elim found [ inl one ↦ cc | inr later ↦ inr later ] ]),
    )
gathered_adds (H.Bound ∷ hs) ks k =
    let rest = gathered_adds hs ks k in (
      λ e. elim (rest.0 e) [ inl there ↦ inl there | inr later ↦ inr (inr later) ],
      λ m. rest.1 (elim m [ inl there ↦ inl there | inr found ↦ elim found [ inl one ↦ cc | inr later ↦ inr later ] ]),
    )
gathered_adds (H.Unknown ∷ hs) ks k =
    let rest = gathered_adds hs ks k in (
      λ e. elim (rest.0 e) [ inl there ↦ inl there | inr later ↦ inr (inr later) ],
      λ m. rest.1 (elim m [ inl there ↦ inl there | inr found ↦ elim found [ inl one ↦ cc | inr later ↦ inr later ] ]),
    )

pub gathered_same : (hs : List Head) → SameParameters (gathered [] hs) hs
gathered_same hs k =
    let adds = gathered_adds hs [] k in (
      λ e. elim (adds.0 e) [ inl there ↦ absurd (let clash : false ≡ true = there in cc) | inr m ↦ m ],
      λ m. adds.1 (inr m),
    )

and_parts : (a b : Bool) → (a && b) ≡ true → (a ≡ true) × (b ≡ true)
and_parts true b h = (refl, h)
and_parts false b h = let clash : false ≡ true = h in cc

all_says : (ys xs : List ℕ) (k : ℕ) → all_in ys xs ≡ true → is_in k xs ≡ true → is_in k ys ≡ true
all_says ys [] k all e = absurd (let clash : false ≡ true = e in cc)
all_says ys (x ∷ xs) k all e =
    let parts = and_parts (is_in x ys) (all_in ys xs) all in
    elim (in_cases k x xs e) [
      | inl one ↦ subst (λ (j : ℕ). is_in j ys ≡ true) (sym one) parts.0
      | inr rest ↦ all_says ys xs k parts.1 rest
    ]

says_all :
    (known : List ℕ) (hs : List Head) (b : Bool)
    → b ≡ all_in known (gathered [] hs) → b ≡ true
    → (k : ℕ) → HeadIn (H.Parameter k) hs → is_in k known ≡ true
says_all known hs b is holds k m =
    all_says known (gathered [] hs) k (sym is ∙ holds) ((gathered_same hs k).1 m)

row_there :
    (n : List (List ℕ)) (d : ℕ) (row : List ℕ)
    → d < length n → row ≡ get_or n d row → row ≡ inside_at n d
row_there [] d row below at = absurd (let h : d < 0 = below in omega arith)
row_there (r ∷ n) zero row below at = at
row_there (r ∷ n) (suc d) row below at =
    let h : suc d < suc (length n) = below in
    let less : d < length n = omega arith in
    row_there n d row less at

pub one_closed :
    (is : List Inst) (heads : ℕ → Head) (n : List (List ℕ)) (d : ℕ) (i : Inst) (row known : List ℕ) (b : Bool)
    → length n ≡ length is → d < length is → i ≡ get_or is d i → row ≡ get_or n d row → known ≡ row
    → b ≡ all_in known (gathered [] (put_ends heads (inside_at n) (plain_inst i))) → b ≡ true
    → (k : ℕ) → HeadIn (H.Parameter k) (put_ends heads (inside_at n) (bodies_of is d))
    → is_in k (inside_at n d) ≡ true
one_closed is heads n d i row known b count below at row_at same told holds k m =
    let there : d < length n = omega (arith, count, below) in
    subst (λ (ks : List ℕ). is_in k ks ≡ true) (same ∙ row_there n d row there row_at)
    (says_all known (put_ends heads (inside_at n) (plain_inst i)) b told holds k
    (subst (λ t. HeadIn (H.Parameter k) (put_ends heads (inside_at n) t)) (body_there is d i below at) m))

pub all_put_more :
    (heads : ℕ → Head) (inside : ℕ → List ℕ) (xs : List Head) (is : List Inst) (k : ℕ) (i : Inst)
    → k < length is → i ≡ get_or is k i
    → xs ++ all_put_ends heads inside (plain_insts (drop k is))
    ≡ (xs ++ put_ends heads inside (plain_inst i)) ++ all_put_ends heads inside (plain_insts (drop (k + 1) is))
all_put_more heads inside xs is k i below at =
    let rest = all_put_ends heads inside (plain_insts (drop (k + 1) is)) in
    at_drop_more (λ us. xs ++ all_put_ends heads inside (plain_insts us)) is k i below
    ∙ ap (λ (u : Inst). xs ++ (put_ends heads inside (plain_inst u) ++ rest)) (sym at)
    ∙ sym (append_assoc xs (put_ends heads inside (plain_inst i)) rest)

pub ends_more :
    (heads : ℕ → Head) (xs : List Head) (is : List Inst) (k : ℕ) (i : Inst)
    → k < length is → i ≡ get_or is k i
    → xs ++ ends heads (plain_insts (drop k is))
    ≡ (xs ++ end_of heads (plain_inst i) ∷ []) ++ ends heads (plain_insts (drop (k + 1) is))
ends_more heads xs is k i below at =
    let rest = ends heads (plain_insts (drop (k + 1) is)) in
    at_drop_more (λ us. xs ++ ends heads (plain_insts us)) is k i below
    ∙ ap (λ (u : Inst). xs ++ (end_of heads (plain_inst u) ∷ rest)) (sym at)
    ∙ sym (append_assoc xs (end_of heads (plain_inst i) ∷ []) rest)

free_node : (i : ℕ) → (nat_eq i 0 ≡ true) ↔ (H.Node 0 ≡ H.Node i)
free_node i =
    elim (eqb_tells i 0) [
      | inl one ↦ (λ e. ap H.Node (sym one.1), λ e. one.0)
      | inr other ↦ (
        λ e. let clash : false ≡ true = sym other.0 ∙ e in cc,
        λ e. let same : i ≡ 0 = cc in absurd (other.1 same),
      )
    ]

free_end : (h : Head) → (is_free_end h ≡ true) ↔ (H.Node 0 ≡ h)
free_end (H.Parameter k) = (λ e. let clash : false ≡ true = e in cc, λ e. cc)
free_end (H.Node i) = free_node i
free_end H.Bound = (λ e. let clash : false ≡ true = e in cc, λ e. cc)
free_end H.Unknown = (λ e. let clash : false ≡ true = e in cc, λ e. cc)

pub free_among : (hs : List Head) → (has_free_end hs ≡ true) ↔ HeadIn (H.Node 0) hs
free_among [] = (λ e. let clash : false ≡ true = e in cc, λ none. absurd none)
free_among (h ∷ hs) =
    let first = free_end h in
    let rest = free_among hs in (
      λ e. elim (or_cases (is_free_end h) (has_free_end hs) e) [
        | inl one ↦ inl (first.0 one)
        | inr later ↦ inr (rest.0 later)
      ],
      λ m. elim m [
        | inl one ↦ or_left (is_free_end h) (has_free_end hs) (first.1 one)
        | inr later ↦ or_right (is_free_end h) (has_free_end hs) (rest.1 later)
      ],
    )
