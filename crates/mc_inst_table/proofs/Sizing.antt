-- What is kept of the inst definitions to tell which reach themselves over others.
use Rattle.std.proofs.Common.{◌≡◌, ◌≢◌, ◌↔◌, ◌⊎◌, inl, inr, ℕ, zero, suc, ◌+◌, ◌<◌, ◌≤◌, Bool, true, false, List, [], ◌∷◌, ◌++◌, map, length, get_or, drop, take, set, slice_get, slice_index, slice_index_or, refl, sym, ap, ◌∙◌, subst, arith}
use Rattle.std.specs.Prelude.{Option, Some, None}
use Rattle.std.proofs.Math.Path.{fun_ext}
use Rattle.std.proofs.lemmas.Bool.{cases_lt}
use Rattle.std.proofs.lemmas.Bool.Decides.{eqb_tells}
use Rattle.std.proofs.lemmas.List.{at_drop_more, take_more, get_or-set_same, get_or-set_other}
use Rattle.mc_model.specs.Lists.{is_in}
use Rattle.mc_components.specs.Components.{steps, NumbersComponents}
use Rattle.mc_components.proofs.Certified.{in_head, in_tail, in_cases}
use Rattle.mc_accepted.specs.InstRules.{InstTerm, bound_over, no_insts, inst_then, Bodies, InstTerms, Mentions, ReachesOthers}
use Rattle.mc_names.specs.declared.names.Named.{Named}
use Rattle.mc_names.specs.declared.names.Names.{Names}
use Rattle.mc_names.specs.Linked.{Linked, plain_named, plain_names}
use Rattle.mc_inst_table.specs.declared.inst.Inst.{Inst}
use Rattle.mc_inst_table.specs.declared.links.Link.{Link}
use Rattle.mc_inst_table.specs.declared.others.Given.{Given}
use Rattle.mc_inst_table.specs.Plain.{plain_inst}
use Rattle.mc_inst_table.specs.Rules.{inst_body_of, inst_bodies}
use Rattle.mc_inst_table.specs.code.Ends.{how_many, needs, bodies_of, AreNeeds}
use Rattle.mc_inst_table.specs.code.Links.{given_of, links, LinkIn}
use Rattle.mc_inst_table.specs.code.Places.{firsts_from, place, width_at, links_at, all_rows, all_spoiled}
use Rattle.mc_inst_table.specs.code.Others.{arity_of, inst_arity, AreSized, to_of, number_of, NoneMarked, AreMarked, AreGiven}
use Rattle.mc_inst_table.proofs.Linking.{mentioned_links}
use Rattle.mc_inst_table.proofs.Knowing.{bodies_by}
use Rattle.mc_inst_table.proofs.Judging.{shared_told, spoiled_told, none_told}

pub sized_more :
    (ws : List ℕ) (ls : List Link) (k : ℕ) (l : Link)
    → k < length ls → l ≡ get_or ls k l → length l.given ≡ width_at ws l.to
    → AreSized ws (drop (k + 1) ls) → AreSized ws (drop k ls)
sized_more ws ls k l below at first rest =
    let split : drop k ls ≡ get_or ls k l ∷ drop (k + 1) ls = at_drop_more (λ (us : List Link). us) ls k l below in
    subst (AreSized ws) (sym split)
    (subst (λ (u : Link). length u.given ≡ width_at ws u.to) at first, rest)

pub rows_sized :
    (ws : List ℕ) (all : List (List Link))
    → ((d : ℕ) → d < length all → AreSized ws (links_at all d)) → (d : ℕ) → AreSized ws (links_at all d)
rows_sized ws [] each d = tt
rows_sized ws (ls ∷ all) each zero = each 0 (let h : 0 < suc (length all) = omega arith in h)
rows_sized ws (ls ∷ all) each (suc d) =
    rows_sized ws all (λ e below. each (suc e) (let h : suc e < suc (length all) = omega (arith, below) in h)) d

pub row_there :
    (all : List (List Link)) (d : ℕ) (ls : List Link)
    → d < length all → ls ≡ get_or all d ls → ls ≡ links_at all d
row_there [] d ls below at = absurd (let h : d < 0 = below in omega arith)
row_there (r ∷ all) zero ls below at = at
row_there (r ∷ all) (suc d) ls below at =
    let h : suc d < suc (length all) = below in
    let less : d < length all = omega arith in
    row_there all d ls less at

pub needs_past : (ns : List ℕ) (d : ℕ) → length ns ≤ d → slice_index_or ns d 0 ≡ 0
needs_past [] d past = refl
needs_past (n ∷ ns) zero past = absurd (let h : suc (length ns) ≤ 0 = past in omega arith)
needs_past (n ∷ ns) (suc d) past =
    let h : suc (length ns) ≤ suc d = past in
    let less : length ns ≤ d = omega arith in
    needs_past ns d less

-- MARKS

pub none_more : (bs : List Bool) → NoneMarked bs → NoneMarked (bs ++ false ∷ [])
none_more [] all = (refl, tt)
none_more (b ∷ bs) all = (all.0, none_more bs all.1)

pub none_marked : (bs : List Bool) → NoneMarked bs → (c : ℕ) → slice_index_or bs c false ≡ false
none_marked [] all c = refl
none_marked (b ∷ bs) all zero = all.0
none_marked (b ∷ bs) all (suc c) = none_marked bs all.1 c

in_last : (k : ℕ) (xs : List ℕ) → is_in k (xs ++ k ∷ []) ≡ true
in_last k [] = in_head k k [] refl
in_last k (x ∷ xs) = in_tail k x (xs ++ k ∷ []) (in_last k xs)

in_before : (j k : ℕ) (xs : List ℕ) → is_in j xs ≡ true → is_in j (xs ++ k ∷ []) ≡ true
in_before j k [] e = absurd (let clash : false ≡ true = e in cc)
in_before j k (x ∷ xs) e =
    elim (in_cases j x xs e) [
      | inl one ↦ in_head j x (xs ++ k ∷ []) one
      | inr rest ↦ in_tail j x (xs ++ k ∷ []) (in_before j k xs rest)
    ]

in_either : (j k : ℕ) (xs : List ℕ) → is_in j (xs ++ k ∷ []) ≡ true → (j ≡ k) ⊎ (is_in j xs ≡ true)
in_either j k [] e = elim (in_cases j k [] e) [ inl one ↦ inl one | inr rest ↦ absurd (let clash : false ≡ true = rest in cc) ]
in_either j k (x ∷ xs) e =
    elim (in_cases j x (xs ++ k ∷ []) e) [
      | inl one ↦ inr (in_head j x xs one)
      | inr rest ↦ elim (in_either j k xs rest) [ inl one ↦ inl one | inr there ↦ inr (in_tail j x xs there) ]
    ]

pub marked_more :
    (marks : List Bool) (ns : List ℕ) (k n : ℕ)
    → AreMarked marks (take k ns) → k < length ns → n ≡ get_or ns k 0 → n < length marks
    → AreMarked (set marks n true) (take (k + 1) ns)
marked_more marks ns k n are below at there c =
    let longer : take (k + 1) ns ≡ take k ns ++ n ∷ [] =
    take_more ns k 0 below ∙ ap (λ (m : ℕ). take k ns ++ m ∷ []) (sym at)
    in
    elim (eqb_tells c n) [
      | inl one ↦ (
        λ h. ap (is_in c) longer ∙ subst (λ (m : ℕ). is_in c (take k ns ++ m ∷ []) ≡ true) one.1 (in_last c (take k ns)),
        λ h. ap (λ (m : ℕ). slice_index_or (set marks n true) m false) one.1 ∙ get_or-set_same marks n true false there,
      )
      | inr other ↦
          let same = get_or-set_other marks n c true false other.1 in (
            λ h. ap (is_in c) longer ∙ in_before c n (take k ns) ((are c).0 (sym same ∙ h)),
            λ h.
                elim (in_either c n (take k ns) (ap (is_in c) (sym longer) ∙ h)) [
                  | inl one ↦ absurd (other.1 one)
                  | inr rest ↦ same ∙ (are c).1 rest
                ],
          )
    ]

pub none_are_marked :
    (marks : List Bool) (ns : List ℕ)
    → ((c : ℕ) → slice_index_or marks c false ≡ false) → AreMarked marks (take 0 ns)
none_are_marked marks ns none c = (
  λ h. (let clash : true ≡ false = sym h ∙ none c in cc),
  λ h. absurd (let clash : false ≡ true = h in cc),
)

-- WHAT IS KEPT

widths_are :
    (l : Linked) (ns : List Named) (d : ℕ)
    → width_at (map (λ n. n.name.arity) ns) d ≡ arity_of (slice_get (map plain_named ns) d)
widths_are l [] d = refl
widths_are l (n ∷ ns) zero = refl
widths_are l (n ∷ ns) (suc d) = widths_are l ns d

links_are : (is : List Inst) (d : ℕ) → links_at (map (λ i. links (plain_inst i)) is) d ≡ links (bodies_of is d)
links_are [] d = refl
links_are (i ∷ is) zero = refl
links_are (i ∷ is) (suc d) = links_are is d

steps_are : (is : List Inst) (d : ℕ) → steps (map to_of (map (λ i. links (plain_inst i)) is)) d ≡ map (λ l. l.to) (links (bodies_of is d))
steps_are [] d = refl
steps_are (i ∷ is) zero = refl
steps_are (i ∷ is) (suc d) = steps_are is d

length_given : (is : InstTerms) → length (given_of is) ≡ how_many is
length_given no_insts = refl
length_given (inst_then i is) = ap suc (length_given is)

sized_in : (ws : List ℕ) (ls : List Link) (l : Link) → AreSized ws ls → LinkIn l ls → length l.given ≡ width_at ws l.to
sized_in ws [] l all m = absurd m
sized_in ws (k ∷ ls) l all (inl one) = subst (λ (u : Link). length u.given ≡ width_at ws u.to) (sym one) all.0
sized_in ws (k ∷ ls) l all (inr m) = sized_in ws ls l all.1 m

module _ (is : List Inst) (ws : List ℕ) (all : List (List Link)) (linked : all ≡ map (λ i. links (plain_inst i)) is)
    (all_sized : (d : ℕ) → AreSized ws (links_at all d)) where
  at_body : (d : ℕ) → links_at all d ≡ links (bodies_of is d)
  at_body d = ap (λ ls. links_at ls d) linked ∙ links_are is d

  mention_sized :
      (d e : ℕ) (us : InstTerms) → Mentions (bodies_of is d) e us → how_many us ≡ width_at ws e
  mention_sized d e us m =
      sym (length_given us)
      ∙ sized_in ws (links (bodies_of is d)) (record { to = e; given = given_of us })
      (subst (AreSized ws) (at_body d) (all_sized d)) (mentioned_links (bodies_of is d) e us m)

  module _ (ns : List ℕ) (needed : AreNeeds (bodies_of is) ns) (enough : (d : ℕ) → slice_index_or ns d 0 ≤ width_at ws d)
      (rows : List (List ℕ)) (stepped : rows ≡ map to_of all)
      (inner : List ℕ) (numbered : length inner ≡ length rows) (alike : NumbersComponents rows inner)
      (fs : List ℕ) (begin : fs ≡ firsts_from 0 ws)
      (graph : List (List ℕ)) (is_graph : graph ≡ all_rows fs inner 0 ws all)
      (cs : List ℕ) (same_numbers : NumbersComponents graph cs)
      (spoiled : List ℕ) (is_spoiled : spoiled ≡ all_spoiled cs fs inner 0 all) where
    body_narrow : (d : ℕ) → needs (bodies_of is d) ≤ width_at ws d
    body_narrow d =
        let row = needed d in
        let most = enough d in
        omega (arith, row, most)

    body_rows : (d : ℕ) → steps rows d ≡ map (λ l. l.to) (links (bodies_of is d))
    body_rows d = ap (λ rs. steps rs d) (stepped ∙ ap (map to_of) linked) ∙ steps_are is d

    numbers_by : NumbersComponents (all_rows (firsts_from 0 ws) inner 0 ws all) cs
    numbers_by = subst (λ g. NumbersComponents g cs) (is_graph ∙ ap (λ (gs : List ℕ). all_rows gs inner 0 ws all) begin) same_numbers

    by_shared :
        (d p q : ℕ)
        → p < width_at ws d → q < width_at ws d → p ≢ q
        → slice_index cs (place fs d p) ≡ slice_index cs (place fs d q) → ReachesOthers (bodies_of is) (width_at ws d) d
    by_shared d p q below_p below_q other same =
        shared_told (bodies_of is) ws mention_sized body_narrow all at_body rows body_rows inner numbered alike cs numbers_by
        d p q below_p below_q other
        (subst (λ (gs : List ℕ). slice_index cs (place gs d p) ≡ slice_index cs (place gs d q)) begin same)

    by_spoiled :
        (d q : ℕ)
        → q < width_at ws d → is_in (slice_index cs (place fs d q)) spoiled ≡ true
        → ReachesOthers (bodies_of is) (width_at ws d) d
    by_spoiled d q below h =
        spoiled_told (bodies_of is) ws mention_sized body_narrow all at_body rows body_rows inner numbered alike cs numbers_by
        d q below
        (subst (λ (gs : List ℕ). is_in (slice_index cs (place gs d q)) (all_spoiled cs gs inner 0 all) ≡ true) begin
        (ap (is_in (slice_index cs (place fs d q))) (sym is_spoiled) ∙ h))

    by_none :
        (d : ℕ)
        → ((p : ℕ) → p < width_at ws d → is_in (slice_index cs (place fs d p)) spoiled ≡ true → ⊥)
        → ((p q : ℕ) → p < width_at ws d → q < width_at ws d
        → slice_index cs (place fs d p) ≡ slice_index cs (place fs d q) → p ≡ q)
        → ReachesOthers (bodies_of is) (width_at ws d) d → ⊥
    by_none d well apart =
        none_told (bodies_of is) ws mention_sized body_narrow all at_body rows body_rows inner numbered alike cs numbers_by d
        (λ p below h.
        well p below
        (ap (is_in (slice_index cs (place fs d p))) is_spoiled
        ∙ subst (λ (gs : List ℕ). is_in (slice_index cs (place gs d p)) (all_spoiled cs gs inner 0 all) ≡ true) (sym begin) h))
        (λ p q below_p below_q same.
        apart p q below_p below_q
        (subst (λ (gs : List ℕ). slice_index cs (place gs d p) ≡ slice_index cs (place gs d q)) (sym begin) same))

    pub are_given :
        (l : Linked) (marks : List Bool)
        → ((d : ℕ) → bodies_of is d ≡ inst_bodies l d) → ((d : ℕ) → width_at ws d ≡ inst_arity l d)
        → AreMarked marks spoiled
        → AreGiven l (record {
          widths = ws;
          places = record { firsts = fs; links = all; inner = inner };
          numbers = cs;
          spoiled = marks;
        })
    are_given l marks bodies widths are =
        let same : bodies_of is ≡ inst_bodies l = fun_ext bodies in
        record {
          widths = widths;
          shared =
              λ d p q below_p below_q other one.
              subst (λ (b : Bodies). ReachesOthers b (width_at ws d) d) same (by_shared d p q below_p below_q other one);
          spoils =
              λ d q below h.
              subst (λ (b : Bodies). ReachesOthers b (width_at ws d) d) same
              (by_spoiled d q below ((are (slice_index cs (place fs d q))).0 h));
          none =
              λ d well apart others.
              by_none d (λ p below h. well p below ((are (slice_index cs (place fs d p))).1 h)) apart
              (subst (λ (b : Bodies). ReachesOthers b (width_at ws d) d) (sym same) others);
        }

pub bodies_are :
    (n : Names) (is : List Inst)
    → map plain_inst is ≡ map (λ d. inst_body_of (plain_names n) (Some (plain_named d))) n.insts
    → (d : ℕ) → bodies_of is d ≡ inst_bodies (plain_names n) d
bodies_are n is same d = bodies_by (plain_names n) is n.insts same d

pub widths_by :
    (n : Names) (ws : List ℕ)
    → ws ≡ map (λ d. d.name.arity) n.insts → (d : ℕ) → width_at ws d ≡ inst_arity (plain_names n) d
widths_by n ws same d = ap (λ us. width_at us d) same ∙ widths_are (plain_names n) n.insts d

-- WHAT IS ANSWERED

pub found_shared :
    (l : Linked) (s : Given) (d p q : ℕ)
    → AreGiven l s → p < width_at s.widths d → q < p → number_of s d q ≡ number_of s d p
    → ReachesOthers (inst_bodies l) (inst_arity l d) d
found_shared l s d p q are below less same =
    let below_q : q < width_at s.widths d = omega (arith, below, less) in
    let other = λ (one : q ≡ p). (let clash : ⊥ = omega (arith, one, less) in clash) in
    subst (λ (n : ℕ). ReachesOthers (inst_bodies l) n d) (are.widths d) (are.shared d q p below_q below other same)

pub found_spoiled :
    (l : Linked) (s : Given) (d p : ℕ)
    → AreGiven l s → p < width_at s.widths d → slice_index_or s.spoiled (number_of s d p) false ≡ true
    → ReachesOthers (inst_bodies l) (inst_arity l d) d
found_spoiled l s d p are below h =
    subst (λ (n : ℕ). ReachesOthers (inst_bodies l) n d) (are.widths d) (are.spoils d p below h)

pub none_found :
    (l : Linked) (s : Given) (d : ℕ)
    → AreGiven l s
    → ((p : ℕ) → p < width_at s.widths d
    → (slice_index_or s.spoiled (number_of s d p) false ≡ false)
    × ((q : ℕ) → q < p → number_of s d q ≢ number_of s d p))
    → ReachesOthers (inst_bodies l) (inst_arity l d) d → ⊥
none_found l s d are each others =
    are.none d
    (λ p below h. (let clash : true ≡ false = sym h ∙ (each p below).0 in cc))
    (λ p q below_p below_q same.
    elim (cases_lt p q) [
      | inl less ↦ absurd ((each q below_q).1 p less same)
      | inr past ↦
          elim (cases_lt q p) [
            | inl less ↦ absurd ((each p below_p).1 q less (sym same))
            | inr rest ↦ (let one : p ≡ q = omega (arith, past, rest) in one)
          ]
    ])
    (subst (λ (n : ℕ). ReachesOthers (inst_bodies l) n d) (sym (are.widths d)) others)
