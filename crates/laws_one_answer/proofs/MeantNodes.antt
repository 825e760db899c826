-- An inst that is a node of two graphs means one thing in both.
use Rattle.std.proofs.Common.{◌≡◌, ◌⊎◌, inl, inr, ℕ, zero, suc, ◌<◌, Bool, true, false, not, nat_eq, List, [], ◌∷◌, length, get_or, replicate, Option, Some, None, refl, sym, ap, ◌∙◌, subst, ⊎_elim, arith}
use Rattle.std.specs.Prelude.{Contains}
use Rattle.std.proofs.Math.Nat.{lt_of_lt_of_le}
use Rattle.std.proofs.lemmas.Bool.{eqb-true}
use Rattle.std.proofs.lemmas.List.Sorted.{IsPermutation-sym, Contains-permutation}
use Rattle.mc_program.specs.Programs.{TypeTerm, state_type, variable_type, Source}
use Rattle.mc_program.specs.PlainPrograms.{plain_program}
use Rattle.mc_program.specs.declared.program.Program.{Program}
use Rattle.mc_model.specs.Types.{argument_types}
use Rattle.mc_model.specs.Insts.{Listed, InstNode, free, ground, unique, dead, bound, Graph, Lists, AllowsSymbol, AllowsConstants}
use Rattle.mc_model.specs.Stream.{is_bound}
use Rattle.mc_accepted.specs.Fits.{FitsInsts}
use Rattle.mc_accepted.specs.Inclusion.{Tip, symbol_tip, constant_tip, state_tip, Path, AllowsMark, OnTypes, AllowsTip, Allows}
use Rattle.mc_accepted.specs.InstRules.{PlainInstDef, Functor, InstTerm, parameter, inst_node, defined, bound_over, InstTerms, no_insts, inst_then, inst_at, over, each_over, Bodies, ComesTo, at_that, by_definition}
use Rattle.mc_accepted.specs.Tidy.{Leads, Tidy}
use Rattle.mc_insts.specs.declared.insts.Insts.{Insts}
use Rattle.mc_insts.specs.Graphs.{graph_of, count_of}
use Rattle.mc_insts.specs.Growing.{Grown}
use Rattle.mc_insts.proofs.Overs.{on_types, allows_over, over_allows}
use Rattle.mc_signatures.specs.MeantInsts.{first_insts, insts_behind, EachIs, AreListed, ListsThese, IsUpto, HasBuiltins, IsMeant}
use Rattle.laws_graphs.specs.FaultLaws.{InstAlike}
use Rattle.laws_graphs.proofs.NodesMeanOne.{to-types}
use Rattle.mc_analysis.specs.Premises.{HasInsts}
use Rattle.laws_one_answer.specs.ModesMeanOne.{AreOne}
use Rattle.laws_one_answer.specs.MeantNodes.{NamesBuiltin, EachNamesBuiltin, MeantNodesMeanOne}
use Rattle.laws_one_answer.proofs.GraphsAlike.{one-listed, listed-one}

-- ---- insts that name builtin nodes alone
named-at : (ts : InstTerms) (k : ℕ) → EachNamesBuiltin ts → NamesBuiltin (inst_at ts k)
named-at no_insts k h = tt
named-at (inst_then i is) zero h = h.0
named-at (inst_then i is) (suc k) h = named-at is k h.1

mutual
  pub named-over : (ts : InstTerms) (i : InstTerm) → EachNamesBuiltin ts → NamesBuiltin i → NamesBuiltin (over ts i)
  named-over ts (parameter k) h n = named-at ts k h
  named-over ts (inst_node j) h n = n
  named-over ts (defined d is) h n = each-named-over ts is h n
  named-over ts (bound_over fs is) h n = each-named-over ts is h n

  pub each-named-over : (ts is : InstTerms) → EachNamesBuiltin ts → EachNamesBuiltin is → EachNamesBuiltin (each_over ts is)
  each-named-over ts no_insts h n = tt
  each-named-over ts (inst_then i is) h n = (named-over ts i h n.0, each-named-over ts is h n.1)

named-first : (n : ℕ) (is : InstTerms) → EachNamesBuiltin is → EachNamesBuiltin (first_insts n is)
named-first zero is h = tt
named-first (suc n) no_insts h = tt
named-first (suc n) (inst_then i is) h = (h.0, named-first n is h.1)

named-behind : (n : ℕ) (is : InstTerms) → EachNamesBuiltin is → EachNamesBuiltin (insts_behind n is)
named-behind zero is h = h
named-behind (suc n) no_insts h = tt
named-behind (suc n) (inst_then i is) h = named-behind n is h.1

module _ (body : Bodies) (bodies : (d : ℕ) → NamesBuiltin (body d)) where
  named-comes : (i j : InstTerm) → ComesTo body i j → NamesBuiltin i → NamesBuiltin j
  named-comes i j at_that h = h
  named-comes i j (by_definition {d = d} {is = is} c) h = named-comes (over is (body d)) j c (named-over is (body d) h (bodies d))

  -- ---- what an inst comes to before any constructor is one
  abbrev IsHead : InstTerm → Type 0
  IsHead (parameter k) = ⊥
  IsHead (inst_node n) = Unit {0}
  IsHead (defined d is) = ⊥
  IsHead (bound_over fs is) = Unit {0}

  comes-once : (i a b : InstTerm) → IsHead a → IsHead b → ComesTo body i a → ComesTo body i b → a ≡ b
  comes-once i a b x y at_that at_that = refl
  comes-once i a b x y at_that (by_definition c) = absurd x
  comes-once i a b x y (by_definition c) at_that = absurd y
  comes-once i a b x y (by_definition {d = d} {is = is} c) (by_definition q) = comes-once (over is (body d)) a b x y c q

  module _ (G H : Graph) (here : HasBuiltins G) (there : HasBuiltins H) where
    same-builtin : (n : ℕ) → n < 4 → G n ≡ H n
    same-builtin zero lt = here.is_free ∙ sym there.is_free
    same-builtin (suc zero) lt = here.is_ground ∙ sym there.is_ground
    same-builtin (suc (suc zero)) lt = here.is_unique ∙ sym there.is_unique
    same-builtin (suc (suc (suc zero))) lt = here.is_dead ∙ sym there.is_dead
    same-builtin (suc (suc (suc (suc n)))) lt = absurd (omega (arith, lt))

    -- an inst is both nodes, down to a depth
    record IsBoth (depth n m : ℕ) : Type 0 where
      inst : InstTerm
      named : NamesBuiltin inst
      is_here : IsUpto body G depth inst n
      is_there : IsUpto body H depth inst m

    abbrev EachBoth : (depth : ℕ) → List ℕ → List ℕ → Type 0
    EachBoth d [] [] = Unit {0}
    EachBoth d (n ∷ ns) (m ∷ ms) = IsBoth d n m × EachBoth d ns ms
    EachBoth d _ _ = ⊥

    each-both : (d : ℕ) (is : InstTerms) (ns ms : List ℕ) → EachNamesBuiltin is → EachIs (IsUpto body G d) is ns → EachIs (IsUpto body H d) is ms → EachBoth d ns ms
    each-both d no_insts [] [] h x y = tt
    each-both d no_insts [] (m ∷ ms) h x y = absurd y
    each-both d no_insts (n ∷ ns) ms h x y = absurd x
    each-both d (inst_then i is) [] ms h x y = absurd x
    each-both d (inst_then i is) (n ∷ ns) [] h x y = absurd y
    each-both d (inst_then i is) (n ∷ ns) (m ∷ ms) h x y = (record { inst = i; named = h.0; is_here = x.0; is_there = y.0 }, each-both d is ns ms h.1 x.1 y.1)

    both-at : (d : ℕ) (ns ms : List ℕ) (k : ℕ) → EachBoth d ns ms → k < length ns → (k < length ms) × IsBoth d (get_or ns k 0) (get_or ms k 0)
    both-at d [] ms k b lt = absurd (omega (arith, lt))
    both-at d (n ∷ ns) [] k b lt = absurd b
    both-at d (n ∷ ns) (m ∷ ms) zero b lt = (omega arith, b.0)
    both-at d (n ∷ ns) (m ∷ ms) (suc k) b lt = let r = both-at d ns ms k b.1 (omega (arith, lt)) in (omega (arith, r.0), r.1)

    -- a builtin inst is its node, at any depth
    builtin-both : (d n : ℕ) → n < 4 → IsBoth d n n
    builtin-both zero n lt = record { inst = inst_node n; named = lt; is_here = tt; is_there = tt }
    builtin-both (suc d) n lt = record { inst = inst_node n; named = lt; is_here = inl at_that; is_there = inl at_that }

    builtins-both : (d n many : ℕ) → n < 4 → EachBoth d (replicate many n) (replicate many n)
    builtins-both d n zero lt = tt
    builtins-both d n (suc many) lt = (builtin-both d n lt, builtins-both d n many lt)

    -- so both are one builtin node, or list the same over insts that are both, one level less deep
    data Matched (depth n m : ℕ) : Type 0 where
      builtin : n ≡ m → n < 4 → Matched depth n m
      lists :
          {fs : List Functor} {is : InstTerms} → EachNamesBuiltin is
          → ListsThese (IsUpto body G depth) fs is (G n) → ListsThese (IsUpto body H depth) fs is (H m) → Matched depth n m

    matched : (d n m : ℕ) → IsBoth (suc d) n m → Matched d n m
    matched d n m b = at b.is_here b.is_there
      where
        at : IsUpto body G (suc d) b.inst n → IsUpto body H (suc d) b.inst m → Matched d n m
        at (inl c) (inl q) =
            let e : inst_node n ≡ inst_node m = comes-once b.inst (inst_node n) (inst_node m) tt tt c q in
            builtin (let z : n ≡ m = cc in z) (named-comes b.inst (inst_node n) c b.named)
        at (inl c) (inr (fs, is, q, l)) = (let e : inst_node n ≡ bound_over fs is = comes-once b.inst (inst_node n) (bound_over fs is) tt tt c q in cc)
        at (inr (fs, is, q, l)) (inl c) = (let e : bound_over fs is ≡ inst_node m = comes-once b.inst (bound_over fs is) (inst_node m) tt tt q c in cc)
        at (inr (fs, is, c, l)) (inr (gs, js, q, k)) =
            let e : bound_over fs is ≡ bound_over gs js = comes-once b.inst (bound_over fs is) (bound_over gs js) tt tt c q in
            let x : gs ≡ fs = cc in
            let y : js ≡ is = cc in
            lists (named-comes b.inst (bound_over fs is) c b.named) l
            (subst (λ z. ListsThese (IsUpto body H d) fs z (H m)) y (subst (λ z. ListsThese (IsUpto body H d) z js (H m)) x k))

    module _ (P : Source) where
      -- ---- symbols
      listed-too : (d : ℕ) (fs : List Functor) (is : InstTerms) (ls ms : List Listed) → EachNamesBuiltin is → AreListed (IsUpto body G d) fs is ls → AreListed (IsUpto body H d) fs is ms
          → (s : ℕ) (Q R : List ℕ → Type 0) → ((js ks : List ℕ) → EachBoth d js ks → Q js → R ks) → Lists P ls s Q → Lists P ms s R
      listed-too d [] no_insts [] ms w x y s Q R f h = absurd h
      listed-too d [] no_insts (l ∷ ls) ms w x y s Q R f h = absurd x
      listed-too d [] (inst_then i is) ls ms w x y s Q R f h = absurd x
      listed-too d (g ∷ fs) is [] ms w x y s Q R f h = absurd x
      listed-too d (g ∷ fs) is (l ∷ ls) [] w x y s Q R f h = absurd y
      listed-too d (g ∷ fs) is (l ∷ ls) (m ∷ ms) w x y s Q R f h =
          ⊎_elim
          (λ a. inl (y.0 ∙ sym x.0 ∙ a.0, y.1 ∙ sym x.1 ∙ a.1, f l.args m.args (each-both d (first_insts g.arity is) l.args m.args (named-first g.arity is w) x.2 y.2) a.2))
          (λ b. inr (listed-too d fs (insts_behind g.arity is) ls ms (named-behind g.arity is w) x.3 y.3 s Q R f b)) h

      in-other-order : (xs ys : List Listed) (s : ℕ) (Q : List ℕ → Type 0) → ((l : Listed) → Contains xs l → Contains ys l) → Lists P xs s Q → Lists P ys s Q
      in-other-order xs ys s Q f h =
          let r = one-listed P xs s Q h in
          let c = f r.0 r.1 in
          listed-one P ys s Q r.0 c.0 c.1 c.2 r.2

      these-too : (d : ℕ) (fs : List Functor) (is : InstTerms) (N M : InstNode) (n m : ℕ) → EachNamesBuiltin is → ListsThese (IsUpto body G d) fs is N → ListsThese (IsUpto body H d) fs is M
          → (s : ℕ) (Q R : List ℕ → Type 0) → ((js ks : List ℕ) → EachBoth d js ks → Q js → R ks) → AllowsSymbol P N n s Q → AllowsSymbol P M m s R
      these-too d fs is N M n m w l k s Q R f h =
          subst (λ X. AllowsSymbol P X m s R) (sym k.is)
          (in-other-order k.as_written k.listed s R (λ x c. Contains-permutation k.as_written k.listed x k.same c)
          (listed-too d fs is l.as_written k.as_written w l.are k.are s Q R f
          (in-other-order l.listed l.as_written s Q (λ x c. Contains-permutation l.listed l.as_written x (IsPermutation-sym l.as_written l.listed l.same) c)
          (subst (λ X. AllowsSymbol P X n s Q) l.is h))))

      builtin-too : (d n : ℕ) → n < 4 → (s : ℕ) (Q R : List ℕ → Type 0) → ((js ks : List ℕ) → EachBoth d js ks → Q js → R ks) → AllowsSymbol P (G n) n s Q → AllowsSymbol P (H n) n s R
      builtin-too d zero lt s Q R f h = absurd (subst (λ X. AllowsSymbol P X 0 s Q) here.is_free h)
      builtin-too d (suc zero) lt s Q R f h = subst (λ X. AllowsSymbol P X 1 s R) (sym there.is_ground) (f _ _ (builtins-both d 1 (P.symbols s).name.arity lt) (subst (λ X. AllowsSymbol P X 1 s Q) here.is_ground h))
      builtin-too d (suc (suc zero)) lt s Q R f h = subst (λ X. AllowsSymbol P X 2 s R) (sym there.is_unique) (f _ _ (builtins-both d 2 (P.symbols s).name.arity lt) (subst (λ X. AllowsSymbol P X 2 s Q) here.is_unique h))
      builtin-too d (suc (suc (suc zero))) lt s Q R f h = subst (λ X. AllowsSymbol P X 3 s R) (sym there.is_dead) (f _ _ (builtins-both d 3 (P.symbols s).name.arity lt) (subst (λ X. AllowsSymbol P X 3 s Q) here.is_dead h))
      builtin-too d (suc (suc (suc (suc n)))) lt s Q R f h = absurd (omega (arith, lt))

      symbol-too : (d n m : ℕ) → Matched d n m → (s : ℕ) (Q R : List ℕ → Type 0) → ((js ks : List ℕ) → EachBoth d js ks → Q js → R ks) → AllowsSymbol P (G n) n s Q → AllowsSymbol P (H m) m s R
      symbol-too d n m (builtin e lt) s Q R f h = subst (λ k. AllowsSymbol P (H k) k s R) e (builtin-too d n lt s Q R f h)
      symbol-too d n m (lists {fs = fs} {is = is} w l k) s Q R f h = these-too d fs is (G n) (H m) n m w l k s Q R f h

      -- ---- what a node itself is
      alike-nodes : (d n m : ℕ) → Matched d n m → (A : InstNode → Type 0) → ((ls : List Listed) → A (bound ls) → ⊥) → A (G n) → A (H m)
      alike-nodes d n m (builtin e lt) A none a = subst (λ k. A (H k)) e (subst A (same-builtin n lt) a)
      alike-nodes d n m (lists w l k) A none a = absurd (none l.listed (subst A l.is a))

      tip-too : (e : Tip) (n m : ℕ) (t : TypeTerm) → Matched 0 n m → AllowsTip P (G n) n t e → AllowsTip P (H m) m t e
      tip-too (symbol_tip s) n m t x h = on_types (argument_types P s t) _ _ (λ ts a. symbol-too 0 n m x s (λ is. Unit {0}) (λ is. Unit {0}) (λ js ks b u. u) a) h
      tip-too (constant_tip b) n m t x h = (h.0, alike-nodes 0 n m x AllowsConstants (λ ls a. a) h.1)
      tip-too (state_tip k) n m t x h = (h.0, alike-nodes 0 n m x (λ X. AllowsMark X k) (λ ls a. a) h.1)

      -- ---- what it allows
      allows-too : (path : Path) (e : Tip) (n m : ℕ) (t : TypeTerm) → IsBoth (suc (length path)) n m → Allows P G path e n t → Allows P H path e m t
      allows-too [] e n m t b h = tip-too e n m t (matched 0 n m b) h
      allows-too ((s, k) ∷ path) e n m t b h =
          on_types (argument_types P s t) (λ ts. AllowsSymbol P (G n) n s (λ is. (k < length is) × Allows P G path e (get_or is k 0) (get_or ts k (variable_type 0))))
          (λ ts. AllowsSymbol P (H m) m s (λ is. (k < length is) × Allows P H path e (get_or is k 0) (get_or ts k (variable_type 0))))
          (λ ts a.
          symbol-too (suc (length path)) n m (matched (suc (length path)) n m b) s _ _
          (λ js ks each c.
          let r = both-at (suc (length path)) js ks k each c.0 in
          (r.0, allows-too path e (get_or js k 0) (get_or ks k 0) (get_or ts k (variable_type 0)) r.1 c.1)) a) h

      -- ---- where it is tidy
      abbrev IsUsed : InstNode → Type 0
      IsUsed N = (N ≡ unique) ⊎ (N ≡ dead)

      not-used : (ls : List Listed) → IsUsed (bound ls) → ⊥
      not-used ls u = ⊎_elim (λ e. cc) (λ e. cc) u

      types-some : (o : Option (List TypeTerm)) (Q : List TypeTerm → Type 0) → OnTypes o Q → (ts : List TypeTerm) × (o ≡ Some ts) × Q ts
      types-some None Q h = absurd h
      types-some (Some ts) Q h = (ts, refl, h)

      tidy-too : (path : Path) (j : ℕ) (u : TypeTerm) (n m : ℕ) (t : TypeTerm) → IsBoth (suc (length path)) n m → Tidy P H m t → Leads P G path j u n t → IsUsed (G j) → u ≡ state_type
      tidy-too [] j u n m t b tidy l w = sym l.1 ∙ tidy [] m t (refl, refl) (alike-nodes 0 n m (matched 0 n m b) IsUsed not-used (subst (λ k. IsUsed (G k)) (sym l.0) w))
      tidy-too ((s, k) ∷ path) j u n m t b tidy l w =
          let d = suc (length path) in
          let some = types-some (argument_types P s t) (λ ts. AllowsSymbol P (G n) n s (λ is. (k < length is) × Leads P G path j u (get_or is k 0) (get_or ts k (variable_type 0)))) l in
          let ts = some.0 in
          let o = allows_over P (G n) n s (λ is. (k < length is) × Leads P G path j u (get_or is k 0) (get_or ts k (variable_type 0))) some.2 in
          let q = allows_over P (H m) m s (λ ks. EachBoth d o.0 ks) (symbol-too d n m (matched d n m b) s (λ js. js ≡ o.0) (λ ks. EachBoth d o.0 ks) (λ js ks each e. subst (λ is. EachBoth d is ks) e each) o.1) in
          let r = both-at d o.0 q.0 k q.2 o.2.0 in
          tidy-too path j u (get_or o.0 k 0) (get_or q.0 k 0) (get_or ts k (variable_type 0)) r.1
          (λ way i v z.
          tidy ((s, k) ∷ way) i v
          (to-types (argument_types P s t) ts (λ us. AllowsSymbol P (H m) m s (λ is. (k < length is) × Leads P H way i v (get_or is k 0) (get_or us k (variable_type 0)))) some.1
          (over_allows P (H m) m s (λ is. (k < length is) × Leads P H way i v (get_or is k 0) (get_or ts k (variable_type 0))) q.0 q.1 (r.0, z))))
          o.2.1 w

    bound-set : (n : ℕ) (ls : List Listed) → G n ≡ bound ls → is_bound n ≡ true
    bound-set n ls e = at (nat_eq n 0) refl
      where
        at : (b : Bool) → nat_eq n 0 ≡ b → not b ≡ true
        at false q = refl
        at true q = (let z : free ≡ bound ls = sym here.is_free ∙ ap G (sym (eqb-true n 0 q)) ∙ e in cc)

    bound-alike : (d n m : ℕ) → ((k : ℕ) (ls : List Listed) → H k ≡ bound ls → is_bound k ≡ true) → IsBoth (suc d) n m → is_bound n ≡ is_bound m
    bound-alike d n m set b = at (matched d n m b)
      where
        at : Matched d n m → is_bound n ≡ is_bound m
        at (builtin e lt) = ap is_bound e
        at (lists w l k) = bound-set n l.listed l.is ∙ sym (set m k.listed k.is)

has-builtins : (G : Graph) → FitsInsts G → HasBuiltins G
has-builtins G fits = record { is_free = fits.is_free; is_ground = fits.is_ground; is_unique = fits.is_unique; is_dead = fits.is_dead }

-- a node that lists constructors is no builtin one
no-builtin : (G : Graph) → HasBuiltins G → (n : ℕ) (ls : List Listed) → G n ≡ bound ls → 3 < n
no-builtin G h zero ls e = (let z : free ≡ bound ls = sym h.is_free ∙ e in cc)
no-builtin G h (suc zero) ls e = (let z : ground ≡ bound ls = sym h.is_ground ∙ e in cc)
no-builtin G h (suc (suc zero)) ls e = (let z : unique ≡ bound ls = sym h.is_unique ∙ e in cc)
no-builtin G h (suc (suc (suc zero))) ls e = (let z : dead ≡ bound ls = sym h.is_dead ∙ e in cc)
no-builtin G h (suc (suc (suc (suc n)))) ls e = omega arith

module _ (body : Bodies) (bodies : (d : ℕ) → NamesBuiltin (body d)) (P : Program) (ds es : List PlainInstDef) (i : InstTerm) (n m : ℕ) (named : NamesBuiltin i) (x : IsMeant body ds i n) (y : IsMeant body es i m)
    (I J : Insts) (here : HasInsts P ds I) (other : HasInsts P es J) where
  abbrev S : Source
  S = plain_program P

  abbrev G : Graph
  G = graph_of I

  abbrev H : Graph
  H = graph_of J

  hg : HasBuiltins G
  hg = has-builtins G here.are_of.insts

  hh : HasBuiltins H
  hh = has-builtins H other.are_of.insts

  both : (d : ℕ) → IsBoth body bodies G H hg hh d n m
  both d = record { inst = i; named = named; is_here = x G here.nodes hg here.defined d; is_there = y H other.nodes hh other.defined d }

  back : (d : ℕ) → IsBoth body bodies H G hh hg d m n
  back d = record { inst = i; named = named; is_here = y H other.nodes hh other.defined d; is_there = x G here.nodes hg here.defined d }

  nodes-alike : InstAlike n m
  nodes-alike = at (matched body bodies G H hg hh 0 n m (both 1))
    where
      at : Matched body bodies G H hg hh 0 n m → InstAlike n m
      at (builtin e lt) = inl e
      at (lists w l k) = inr (no-builtin G hg n l.listed l.is, no-builtin H hh m k.listed k.is)

  tidy-there : (t : TypeTerm) → Tidy S G n t → Tidy S H m t
  tidy-there t tidy path j u l w = tidy-too body bodies H G hh hg S path j u m n t (back (suc (length path))) tidy l w

  tidy-here : (t : TypeTerm) → Tidy S H m t → Tidy S G n t
  tidy-here t tidy path j u l w = tidy-too body bodies G H hg hh S path j u n m t (both (suc (length path))) tidy l w

  meant-one : (K L : Insts) → Grown S I K → Grown S J L → n < count_of I → m < count_of J → (t : TypeTerm) → Tidy S G n t → AreOne P K L t n m
  meant-one K L on also ln lm t tidy =
      record {
        here = lt_of_lt_of_le ln on.more;
        there = lt_of_lt_of_le lm also.more;
        bound = bound-alike body bodies G H hg hh 0 n m (bound-set body bodies H G hh hg) (both 1);
        tidy_here = (on.tidy n ln t).0 tidy;
        tidy_there = (also.tidy m lm t).0 (tidy-there t tidy);
        same = λ path e. (
          (λ a. (also.meaning m lm path e t).0 (allows-too body bodies G H hg hh S path e n m t (both (suc (length path))) ((on.meaning n ln path e t).1 a))),
          (λ a. (on.meaning n ln path e t).0 (allows-too body bodies H G hh hg S path e m n t (back (suc (length path))) ((also.meaning m lm path e t).1 a))),
        );
      }

pub meant-nodes-mean-one : MeantNodesMeanOne
meant-nodes-mean-one body bodies P ds es i n m named x y =
    record {
      alike = λ I J here other. nodes-alike body bodies P ds es i n m named x y I J here other;
      tidy = λ I J here other t. (tidy-there body bodies P ds es i n m named x y I J here other t, tidy-here body bodies P ds es i n m named x y I J here other t);
      one = λ I J K L here other on also ln lm t tidy. meant-one body bodies P ds es i n m named x y I J here other K L on also ln lm t tidy;
    }
