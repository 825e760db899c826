-- Nodes in good form, and the graph that they show.
use Rattle.std.proofs.Common.{◌≡◌, ℕ, zero, suc, ◌+◌, ◌-◌, ◌<◌, ◌≤◌, List, [], ◌∷◌, ◌++◌, length, get_or, map, replicate, refl, sym, ap, ◌∙◌, subst, arith, length-append, ⊎_elim}
use Rattle.std.proofs.lemmas.List.{get_or_append_left, get_or_push, get_or-append-add, length-replicate}
use Rattle.mc_model.specs.Insts.{Listed, free, ground, unique, dead, bound}
use Rattle.mc_accepted.specs.Proper.{Unlisted, ListsOnce, ProperNode}
use Rattle.mc_accepted.specs.Fits.{NoneFree, NoArgumentFree, FitsInsts}
use Rattle.mc_insts.specs.declared.graph.Case.{Case}
use Rattle.mc_insts.specs.declared.graph.Node.{Node}
use Rattle.mc_insts.specs.declared.graph.Node.TheVariants as N
use Rattle.mc_insts.specs.declared.graph.Shape.{Shape}
use Rattle.mc_insts.specs.declared.graph.Shape.TheVariants as S
use Rattle.mc_insts.specs.declared.triples.Triple.{Triple}
use Rattle.mc_insts.specs.code.Functors.{Functor}
use Rattle.mc_insts.specs.code.Cases.{Rising}
use Rattle.mc_insts.specs.code.Walks.{Scene, node_at, functor_at, ProperCases}
use Rattle.mc_insts.specs.code.Lists.{Stands}
use Rattle.mc_insts.specs.code.Merges.{Builtins, Refers, Next, Made, spread, spread_over, spread_cases}
use Rattle.mc_insts.specs.code.Shown.{plain_case, plain_node, plain_graph, Distinct}
use Rattle.mc_insts.specs.code.Formed.{Filled, AllFilled, Formed}
use Rattle.mc_insts.proofs.Found.{by_order, get_any, rising_tail, rising_above}
use Rattle.mc_insts.proofs.Bridge.{get_replicate}
use Rattle.mc_insts.proofs.Mades.{get_past, none_filled}

-- what a node is, by what it shows
pub shown_free : (fs : List Functor) (M : Node) → plain_node fs M ≡ free → M ≡ N.Free
shown_free fs N.Free h = refl
shown_free fs N.Ground h = cc
shown_free fs N.Unique h = cc
shown_free fs N.Dead h = cc
shown_free fs (N.Bound cs) h = cc

shown_ground : (fs : List Functor) (M : Node) → plain_node fs M ≡ ground → M ≡ N.Ground
shown_ground fs N.Free h = cc
shown_ground fs N.Ground h = refl
shown_ground fs N.Unique h = cc
shown_ground fs N.Dead h = cc
shown_ground fs (N.Bound cs) h = cc

shown_unique : (fs : List Functor) (M : Node) → plain_node fs M ≡ unique → M ≡ N.Unique
shown_unique fs N.Free h = cc
shown_unique fs N.Ground h = cc
shown_unique fs N.Unique h = refl
shown_unique fs N.Dead h = cc
shown_unique fs (N.Bound cs) h = cc

pub shown_dead : (fs : List Functor) (M : Node) → plain_node fs M ≡ dead → M ≡ N.Dead
shown_dead fs N.Free h = cc
shown_dead fs N.Ground h = cc
shown_dead fs N.Unique h = cc
shown_dead fs N.Dead h = refl
shown_dead fs (N.Bound cs) h = cc

shown_bound : (fs : List Functor) (M : Node) (ls : List Listed) → plain_node fs M ≡ bound ls → (cs : List Case) × ((M ≡ N.Bound cs) × (map (plain_case fs) cs ≡ ls))
shown_bound fs N.Free ls h = cc
shown_bound fs N.Ground ls h = cc
shown_bound fs N.Unique ls h = cc
shown_bound fs N.Dead ls h = cc
shown_bound fs (N.Bound cs) ls h = (cs, (refl, (let x : bound (map (plain_case fs) cs) ≡ bound ls = h in cc)))

none_free : (is : List ℕ) → Filled is → NoneFree is
none_free [] f = tt
none_free (i ∷ is) f = ((λ e. let x : 0 < i = f 0 (omega arith) in absurd (omega arith)), none_free is (λ k lt. f (suc k) (omega arith)))

filled_of : (is : List ℕ) → NoneFree is → Filled is
filled_of [] h k lt = absurd (omega arith)
filled_of (i ∷ is) h zero lt = by_order 0 i (λ x. x) (λ e. absurd (h.0 (sym e))) (λ x. absurd (omega arith))
filled_of (i ∷ is) h (suc k) lt = filled_of is h.1 k (omega arith)

no_argument_free : (fs : List Functor) (cs : List Case) → AllFilled cs → NoArgumentFree (map (plain_case fs) cs)
no_argument_free fs [] f = tt
no_argument_free fs (c ∷ cs) f = (none_free c.args (f 0 c (omega arith)), no_argument_free fs cs (λ k d lt. f (suc k) d (omega arith)))

all_filled : (fs : List Functor) (cs : List Case) → NoArgumentFree (map (plain_case fs) cs) → AllFilled cs
all_filled fs [] h k d lt = absurd (omega arith)
all_filled fs (c ∷ cs) h zero d lt = filled_of c.args h.0
all_filled fs (c ∷ cs) h (suc k) d lt = all_filled fs cs h.1 k d (omega arith)

module _ (fs : List Functor) (distinct : Distinct fs) where
  unlisted : (c : Case) (cs : List Case) → c.functor < length fs → ((k : ℕ) (d : Case) → k < length cs → (get_or cs k d).functor < length fs)
      → ((k : ℕ) (d : Case) → k < length cs → c.functor < (get_or cs k d).functor) → Unlisted (plain_case fs c) (map (plain_case fs) cs)
  unlisted c [] w there above = tt
  unlisted c (d ∷ cs) w there above = (
    (λ p q.
        let e : c.functor ≡ d.functor = distinct c.functor d.functor w (there 0 d (omega arith)) p q in
        let lt : c.functor < d.functor = above 0 d (omega arith) in
        absurd (omega arith)),
    unlisted c cs w (λ k e lt. there (suc k) e (omega arith)) (λ k e lt. above (suc k) e (omega arith)),
  )

  lists_once : (cs : List Case) → Rising cs → ((k : ℕ) (d : Case) → k < length cs → (get_or cs k d).functor < length fs)
      → ((k : ℕ) (d : Case) → k < length cs → length (get_or cs k d).args ≡ (functor_at fs (get_or cs k d).functor).arity) → ListsOnce (map (plain_case fs) cs)
  lists_once [] r there wide = tt
  lists_once (c ∷ cs) r there wide = (
    wide 0 c (omega arith),
    unlisted c cs (there 0 c (omega arith)) (λ k d lt. there (suc k) d (omega arith)) (λ k d lt. rising_above c cs r k d lt),
    lists_once cs (rising_tail c cs r) (λ k d lt. there (suc k) d (omega arith)) (λ k d lt. wide (suc k) d (omega arith)),
  )

  proper_node : (M : Node) → ((cs : List Case) → M ≡ N.Bound cs → ListsOnce (map (plain_case fs) cs)) → ProperNode (plain_node fs M)
  proper_node N.Free h = tt
  proper_node N.Ground h = tt
  proper_node N.Unique h = tt
  proper_node N.Dead h = tt
  proper_node (N.Bound cs) h = h cs refl

-- the graph that nodes in good form show
pub formed_fits : (C : Scene) (n : ℕ) → Distinct C.functors → ((i : ℕ) (cs : List Case) → node_at C.nodes i ≡ N.Bound cs → ProperCases C n cs) → Formed C.nodes → FitsInsts (plain_graph C.functors C.nodes)
formed_fits C n distinct nodes f = record {
  is_free = ap (plain_node C.functors) f.is_free;
  is_ground = ap (plain_node C.functors) f.is_ground;
  is_unique = ap (plain_node C.functors) f.is_unique;
  is_dead = ap (plain_node C.functors) f.is_dead;
  are_bound = λ i. let b = f.are_bound i in (map (plain_case C.functors) b.0, ap (plain_node C.functors) b.1, no_argument_free C.functors b.0 (f.filled (suc (suc (suc (suc i)))) b.0 b.1));
  proper = λ i. proper_node C.functors distinct (node_at C.nodes i)
      (λ cs e.
      let p = nodes i cs e in
      lists_once C.functors distinct cs p.rising (λ k d lt. (p.fitting k d lt).functor) (λ k d lt. (p.fitting k d lt).args));
}

pub fits_formed : (fs : List Functor) (ns : List Node) → FitsInsts (plain_graph fs ns) → Formed ns
fits_formed fs ns g = record {
  is_free = zeroth;
  is_ground = first;
  is_unique = second;
  is_dead = third;
  are_bound = λ i. let b = shown_bound fs (node_at ns (suc (suc (suc (suc i))))) (g.are_bound i).0 (g.are_bound i).1 in (b.0, b.1.0);
  filled = inside;
}
  where
    zeroth : node_at ns 0 ≡ N.Free
    zeroth = shown_free fs (node_at ns 0) g.is_free

    first : node_at ns 1 ≡ N.Ground
    first = shown_ground fs (node_at ns 1) g.is_ground

    second : node_at ns 2 ≡ N.Unique
    second = shown_unique fs (node_at ns 2) g.is_unique

    third : node_at ns 3 ≡ N.Dead
    third = shown_dead fs (node_at ns 3) g.is_dead

    inside : (i : ℕ) (cs : List Case) → node_at ns i ≡ N.Bound cs → AllFilled cs
    inside zero cs e = let x : N.Free ≡ N.Bound cs = sym zeroth ∙ e in cc
    inside (suc zero) cs e = let x : N.Ground ≡ N.Bound cs = sym first ∙ e in cc
    inside (suc (suc zero)) cs e = let x : N.Unique ≡ N.Bound cs = sym second ∙ e in cc
    inside (suc (suc (suc zero))) cs e = let x : N.Dead ≡ N.Bound cs = sym third ∙ e in cc
    inside (suc (suc (suc (suc i)))) cs e =
        let b = g.are_bound i in
        let c = shown_bound fs (node_at ns (suc (suc (suc (suc i))))) b.0 b.1 in
        let q : N.Bound c.0 ≡ N.Bound cs = sym c.1.0 ∙ e in
        let r : c.0 ≡ cs = cc in
        subst AllFilled r (all_filled fs c.0 (subst NoArgumentFree (sym c.1.1) b.2))

-- what is put in for a builtin inst isn't free
spread_filled : (i : ℕ) (cs : List Case) → 0 < i → AllFilled (map (spread i) cs)
spread_filled i [] w k d lt = absurd (omega arith)
spread_filled i (c ∷ cs) w zero d lt = λ a h.
    let l : length (replicate {A = ℕ} (length c.args) i) ≡ length c.args = length-replicate (length c.args) i in
    subst (λ j. 0 < j) (sym (get_replicate (length c.args) i a (omega arith))) w
spread_filled i (c ∷ cs) w (suc k) d lt = spread_filled i cs w k d (omega arith)

spread_row_filled : (i : ℕ) (R : Shape) → 0 < i → AllFilled (spread_over i R)
spread_row_filled i S.Constants w = λ k d lt. absurd (omega arith)
spread_row_filled i S.State w = λ k d lt. absurd (omega arith)
spread_row_filled i S.Any w = λ k d lt. absurd (omega arith)
spread_row_filled i (S.Union cs) w = spread_filled i cs w

module _ (ns : List Node) (f : Formed ns) where
  not_first : (i : ℕ) (M : Node) → node_at ns i ≡ M → (N.Free ≡ M → ⊥) → 0 < i
  not_first zero M e n = absurd (n (sym f.is_free ∙ e))
  not_first (suc i) M e n = omega arith

  spread_node : (i : ℕ) (M : Node) (R : Shape) → node_at ns i ≡ M → AllFilled (spread_cases M i R)
  spread_node i N.Free R e = λ k d lt. absurd (omega arith)
  spread_node i N.Ground R e = spread_row_filled i R (not_first i N.Ground e (λ x. cc))
  spread_node i N.Unique R e = spread_row_filled i R (not_first i N.Unique e (λ x. cc))
  spread_node i N.Dead R e = spread_row_filled i R (not_first i N.Dead e (λ x. cc))
  spread_node i (N.Bound cs) R e = f.filled i cs e

  pub cases_filled : (i : ℕ) (R : Shape) → AllFilled (spread_cases (node_at ns i) i R)
  cases_filled i R = spread_node i (node_at ns i) R refl

-- what stands for insts that aren't free isn't
next_filled : (C : Scene) (j r k : ℕ) → Next C j r k → 0 < k
next_filled C j r k n = ⊎_elim (λ e. omega arith) (λ e. let x : k ≡ 3 = e.0 in omega arith) n

pub refers_filled : (C : Scene) (seen : List Triple) (u : Triple) (k : ℕ) → Builtins C.nodes → 0 < u.low → 0 < u.high → Refers C seen u k → 0 < k
refers_filled C seen u k b low high r =
    let many = b.many in
    ⊎_elim
    (λ d. ⊎_elim (λ e. omega arith)
    (λ o. ⊎_elim (λ e. omega arith) (λ c. ⊎_elim (λ a. next_filled C u.high u.row k a.1) (λ a. next_filled C u.low u.row k a.1) c.1) o)
    d.which)
    (λ s. let e : k ≡ length C.nodes + s.0 = s.1.1 in omega arith)
    r

pub filled_push : (cs : List Case) (c : Case) → AllFilled cs → Filled c.args → AllFilled (cs ++ c ∷ [])
filled_push cs c f g k d lt =
    let l : length (cs ++ c ∷ []) ≡ length cs + 1 = length-append cs (c ∷ []) in
    by_order k (length cs)
    (λ x. subst (λ (e : Case). Filled e.args) (sym (get_or_append_left cs (c ∷ []) d k x)) (f k d x))
    (λ x. subst (λ (e : Case). Filled e.args) (sym (get_or_push cs c d k (sym x))) g)
    (λ x. absurd (omega arith))

-- a copy of a case
pub filled_copy : (cs out : List Case) (n : ℕ) (case copy : Case) → n < length cs → case ≡ get_or cs n case → copy ≡ case → AllFilled cs → AllFilled out → AllFilled (out ++ copy ∷ [])
filled_copy cs out n case copy lt is same f g = filled_push out copy g (subst (λ (e : Case). Filled e.args) (sym (same ∙ is)) (f n case lt))

-- nodes in good form stay so where bound ones that are free nowhere inside are put at the end
module _ (ns ms : List Node) (many : 3 < length ns) (bounds : (n : ℕ) → n < length ms → (cs : List Case) × (node_at ms n ≡ N.Bound cs))
    (inside : (n : ℕ) (cs : List Case) → n < length ms → node_at ms n ≡ N.Bound cs → AllFilled cs) where
  old_at : (i : ℕ) → i < length ns → node_at (ns ++ ms) i ≡ node_at ns i
  old_at i lt = get_or_append_left ns ms (N.Bound []) i lt

  new_at : (i : ℕ) → length ns ≤ i → node_at (ns ++ ms) i ≡ node_at ms (i - length ns)
  new_at i le =
      let q : i ≡ length ns + (i - length ns) = omega arith in
      ap (node_at (ns ++ ms)) q ∙ get_or-append-add ns ms (i - length ns) (N.Bound [])

  any_bound : (n : ℕ) → (cs : List Case) × (node_at ms n ≡ N.Bound cs)
  any_bound n =
      by_order n (length ms) (λ lt. bounds n lt) (λ e. ([], get_past ms n (N.Bound []) (omega arith))) (λ e. ([], get_past ms n (N.Bound []) (omega arith)))

  any_filled : (n : ℕ) (cs : List Case) → node_at ms n ≡ N.Bound cs → AllFilled cs
  any_filled n cs e =
      by_order n (length ms)
      (λ lt. inside n cs lt e)
      (λ q. none_filled cs (sym (get_past ms n (N.Bound []) (omega arith)) ∙ e))
      (λ q. none_filled cs (sym (get_past ms n (N.Bound []) (omega arith)) ∙ e))

  new_bound : (i : ℕ) → length ns ≤ i → (cs : List Case) × (node_at (ns ++ ms) i ≡ N.Bound cs)
  new_bound i le = let x = any_bound (i - length ns) in (x.0, new_at i le ∙ x.1)

  new_filled : (i : ℕ) (cs : List Case) → length ns ≤ i → node_at (ns ++ ms) i ≡ N.Bound cs → AllFilled cs
  new_filled i cs le e = any_filled (i - length ns) cs (sym (new_at i le) ∙ e)

  pub formed_end : Formed ns → Formed (ns ++ ms)
  formed_end f = record {
    is_free = old_at 0 (omega arith) ∙ f.is_free;
    is_ground = old_at 1 (omega arith) ∙ f.is_ground;
    is_unique = old_at 2 (omega arith) ∙ f.is_unique;
    is_dead = old_at 3 many ∙ f.is_dead;
    are_bound = λ i.
        by_order (suc (suc (suc (suc i)))) (length ns)
        (λ lt. let x = f.are_bound i in (x.0, old_at (suc (suc (suc (suc i)))) lt ∙ x.1))
        (λ e. new_bound (suc (suc (suc (suc i)))) (omega arith))
        (λ e. new_bound (suc (suc (suc (suc i)))) (omega arith));
    filled = λ i cs e.
        by_order i (length ns)
        (λ lt. f.filled i cs (sym (old_at i lt) ∙ e))
        (λ q. new_filled i cs (omega arith) e)
        (λ q. new_filled i cs (omega arith) e);
  }

stands_any : (xs : List Triple) (n : ℕ) (d : Triple) → n < length xs → Stands xs n (get_or xs n d)
stands_any xs n d lt = record { within = lt; is = get_any xs n (get_or xs n d) d lt }

-- so those that a merge makes
pub formed_made : (C : Scene) (made : List Node) (root : Triple) (k : ℕ) → Made C root k made → Builtins C.nodes → Formed C.nodes → Formed (C.nodes ++ made)
formed_made C made root k m b f =
    formed_end C.nodes made b.many
    (λ n lt. let c = m.count in let g = m.merges n (get_or m.seen n root) (stands_any m.seen n root (omega arith)) in (g.cases, g.is))
    (λ n cs lt e. m.filled f n cs e)
    f

-- and the builtin ones
pub formed_builtin : (ns : List Node) → ns ≡ N.Free ∷ N.Ground ∷ N.Unique ∷ N.Dead ∷ [] → Formed ns
formed_builtin ns e = subst Formed (sym e) (record {
  is_free = refl;
  is_ground = refl;
  is_unique = refl;
  is_dead = refl;
  are_bound = λ i. ([], past i);
  filled = inside;
})
  where
    past : (i : ℕ) → node_at (N.Free ∷ N.Ground ∷ N.Unique ∷ N.Dead ∷ []) (suc (suc (suc (suc i)))) ≡ N.Bound []
    past i = get_past [] i (N.Bound []) (omega arith)

    inside : (i : ℕ) (cs : List Case) → node_at (N.Free ∷ N.Ground ∷ N.Unique ∷ N.Dead ∷ []) i ≡ N.Bound cs → AllFilled cs
    inside zero cs e = cc
    inside (suc zero) cs e = cc
    inside (suc (suc zero)) cs e = cc
    inside (suc (suc (suc zero))) cs e = cc
    inside (suc (suc (suc (suc i)))) cs e = none_filled cs (sym (past i) ∙ e)
