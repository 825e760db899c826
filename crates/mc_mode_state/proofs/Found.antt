-- Nodes that were found, while tables and the graph grow.
use Rattle.std.proofs.Common.{◌≡◌, ◌⊎◌, inl, inr, ℕ, ◌<◌, ◌≤◌, Bool, true, false, List, [], ◌∷◌, ◌++◌, ◌&&◌, length, get_or, map, take, Some, None, nat_eq, if◌then◌else◌, refl, sym, ap, ◌∙◌, subst, arith, ⊎_elim, length-append}
use Rattle.std.specs.Str.{bytes_eq}
use Rattle.std.proofs.lemmas.Bool.{eqb-true, eq-eqb}
use Rattle.std.proofs.lemmas.Slice.Eq.{bytes_eq-Decides}
use Rattle.std.proofs.Math.Seq.{take-length}
use Rattle.std.proofs.lemmas.Bool.{cases_lt}
use Rattle.std.proofs.lemmas.List.{take-map, get_or-take, get_or_append_left, length-take}
use Rattle.mc_program.specs.Programs.{TypeTerm, variable_type, Source}
use Rattle.mc_program.specs.PlainPrograms.{plain_type}
use Rattle.mc_program.specs.declared.ty.Ty.{Ty}
use Rattle.mc_procs.specs.Fitting.{AllFit}
use Rattle.mc_insts.specs.declared.insts.Insts.{Insts}
use Rattle.mc_insts.specs.Graphs.{graph_of, count_of}
use Rattle.mc_insts.specs.Growing.{Grown}
use Rattle.mc_procs.specs.Procedures.{PlainProcs, source_of, with_insts}
use Rattle.mc_mode_state.specs.Tables.{Entry, node_in}
use Rattle.mc_mode_state.specs.Nodes.{type_in, Once, IsOver, StoodFor, NodesAre, NodesMoved}
use Rattle.mc_mode_state.specs.declared.nodes.Nodes.{Nodes}

and_left : (a b : Bool) → (a && b) ≡ true → a ≡ true
and_left true b h = refl
and_left false b h = cc

and_right : (a b : Bool) → (a && b) ≡ true → b ≡ true
and_right true b h = h
and_right false b h = cc

both : (a b : Bool) → a ≡ true → b ≡ true → (a && b) ≡ true
both true b h i = i
both false b h i = cc

-- a table to which a node was added
module _ (old new : List Entry) (n : ℕ) (js : List ℕ) (k : ℕ)
    (put : (m : ℕ) (is : List ℕ) → node_in new m is ≡ (if nat_eq m n && bytes_eq is js then Some k else node_in old m is)) where
  pub put-there : node_in new n js ≡ Some k
  put-there = put n js ∙ ap (λ t. if t then Some k else node_in old n js) (both (nat_eq n n) (bytes_eq js js) (eq-eqb n n refl) ((bytes_eq-Decides js js).1 refl))

  kept_by : (m : ℕ) (is : List ℕ) (v : ℕ) (t : Bool) → (nat_eq m n && bytes_eq is js) ≡ t → node_in old n js ≡ None → node_in old m is ≡ Some v → (if t then Some k else node_in old m is) ≡ Some v
  kept_by m is v true h none some =
      let e : m ≡ n = eqb-true m n (and_left (nat_eq m n) (bytes_eq is js) h) in
      let f : is ≡ js = (bytes_eq-Decides is js).0 (and_right (nat_eq m n) (bytes_eq is js) h) in
      let g : node_in old m is ≡ None = ap (λ x. node_in old x is) e ∙ (ap (node_in old n) f ∙ none) in
      let clash : Some v ≡ None = sym some ∙ g in
      cc
  kept_by m is v false h none some = some

  pub put-kept : node_in old n js ≡ None → (m v : ℕ) (is : List ℕ) → node_in old m is ≡ Some v → node_in new m is ≡ Some v
  put-kept none m v is some = put m is ∙ kept_by m is v (nat_eq m n && bytes_eq is js) refl none some

  only_by : (m : ℕ) (is : List ℕ) (v : ℕ) (t : Bool) → (nat_eq m n && bytes_eq is js) ≡ t → (if t then Some k else node_in old m is) ≡ Some v → ((m ≡ n) × (is ≡ js) × (v ≡ k)) ⊎ (node_in old m is ≡ Some v)
  only_by m is v true h some =
      inl (eqb-true m n (and_left (nat_eq m n) (bytes_eq is js) h), (bytes_eq-Decides is js).0 (and_right (nat_eq m n) (bytes_eq is js) h), let x : v ≡ k = cc in x)
  only_by m is v false h some = inr some

  pub put-only : (m v : ℕ) (is : List ℕ) → node_in new m is ≡ Some v → ((m ≡ n) × (is ≡ js) × (v ≡ k)) ⊎ (node_in old m is ≡ Some v)
  put-only m v is some = only_by m is v (nat_eq m n && bytes_eq is js) refl (sym (put m is) ∙ some)

pub grown-refl : (P : Source) (I : Insts) → Grown P I I
grown-refl P I = record { more = omega arith; same = λ i h. refl; meaning = λ i h path e t. (λ a. a, λ a. a); tidy = λ i h t. (λ a. a, λ a. a) }

pub grown-trans : (P : Source) (I J K : Insts) → Grown P I J → Grown P J K → Grown P I K
grown-trans P I J K g h = record {
  more = let a = g.more in let b = h.more in omega arith;
  same = λ i l. h.same i (let a = g.more in omega arith) ∙ g.same i l;
  meaning = λ i l path e t.
      let x = g.meaning i l path e t in
      let y = h.meaning i (let a = g.more in omega arith) path e t in
      (λ a. y.0 (x.0 a), λ a. x.1 (y.1 a));
  tidy = λ i l t.
      let x = g.tidy i l t in
      let y = h.tidy i (let a = g.more in omega arith) t in
      (λ a. y.0 (x.0 a), λ a. x.1 (y.1 a));
}

-- what was found stays right while the graph grows
pub stood-grown : (P : Source) (I J : Insts) (is : List ℕ) (k : ℕ) (t : TypeTerm) → Grown P I J → StoodFor P I is k t → StoodFor P J is k t
stood-grown P I J is k t g h = record { before = h.before; insts = h.insts; there = h.there; stands = h.stands; grown = grown-trans P h.before I J h.grown g }

pub over-grown : (P : Source) (I J : Insts) (s k : ℕ) (is : List ℕ) → Grown P I J → (k < count_of I) × IsOver P (graph_of I) k s is → (k < count_of J) × IsOver P (graph_of J) k s is
over-grown P I J s k is g h = (let a = g.more in let b = h.0 in omega arith, g.same k h.0 ∙ h.1)

-- the inst of one more symbol over insts was found
pub one-more-over : (P : Source) (I J : Insts) (N M : Nodes) (n : ℕ) (js : List ℕ) (k : ℕ) → Grown P I J → NodesAre P I N
    → ((m : ℕ) (is : List ℕ) → node_in M.overs m is ≡ (if nat_eq m n && bytes_eq is js then Some k else node_in N.overs m is))
    → M.joins ≡ N.joins → M.types ≡ N.types → k < count_of J → IsOver P (graph_of J) k n js → NodesAre P J M
one-more-over P I J N M n js k g are put j t there over = record {
  overs = λ s v is h. ⊎_elim
      (λ x. (rw x.2 there, rw (x.0, x.1, x.2) over))
      (λ x. over-grown P I J s v is g (are.overs s v is x))
      (put-only N.overs M.overs n js k put s v is h);
  joins = rw (j, t) (λ r v is h. let x = are.joins r v is h in (x.0, stood-grown P I J is v (type_in N.types.items r) g x.1));
  once = rw t are.once;
}

-- insts were found to merge to one more
pub one-more-join : (P : Source) (I J : Insts) (N M : Nodes) (r : ℕ) (js : List ℕ) (k : ℕ) → Grown P I J → NodesAre P I N
    → ((m : ℕ) (is : List ℕ) → node_in M.joins m is ≡ (if nat_eq m r && bytes_eq is js then Some k else node_in N.joins m is))
    → M.overs ≡ N.overs → M.types ≡ N.types → r < length N.types.items → StoodFor P J js k (type_in N.types.items r) → NodesAre P J M
one-more-join P I J N M r js k g are put o t there stood = record {
  overs = rw o (λ s v is h. over-grown P I J s v is g (are.overs s v is h));
  joins = rw t (λ m v is h. ⊎_elim
      (λ x. (rw x.0 there, rw (x.0, x.1, x.2) stood))
      (λ x. let y = are.joins m v is x in (y.0, stood-grown P I J is v (type_in N.types.items m) g y.1))
      (put-only N.joins M.joins r js k put m v is h));
  once = rw t are.once;
}

-- a type that was met before
pub type-kept : (ts us : List Ty) (r : ℕ) → take (length ts) us ≡ ts → r < length ts → type_in us r ≡ type_in ts r
type-kept ts us r e h =
    let d : TypeTerm = variable_type 0 in
    sym (get_or-take (length ts) (map plain_type us) r d h) ∙ ap (λ (xs : List TypeTerm). get_or xs r d) (take-map plain_type (length ts) us ∙ ap (map plain_type) e)

pub once-pushed : (ts : List Ty) (x : Ty) → Once ts → ((k : ℕ) (t : Ty) → k < length ts → get_or ts k t ≡ x → ⊥) → Once (ts ++ x ∷ [])
once-pushed ts x once new r u t l h e = ⊎_elim
    (λ (b : u < length ts). once r u t l b (sym (get_or_append_left ts (x ∷ []) t r (omega arith)) ∙ (e ∙ get_or_append_left ts (x ∷ []) t u b)))
    (λ (b : length ts ≤ u).
    let a : u < length (ts ++ x ∷ []) = h in
    let v : u ≡ length ts = omega (arith, a, length-append ts (x ∷ [])) in
    new r t (omega arith) (sym (get_or_append_left ts (x ∷ []) t r (omega arith)) ∙ (e ∙ (ap (λ n. get_or (ts ++ x ∷ []) n t) v ∙ seam ts x t))))
    (cases_lt u (length ts))
  where
    seam : (us : List Ty) (y t : Ty) → get_or (us ++ y ∷ []) (length us) t ≡ y
    seam [] y t = refl
    seam (z ∷ us) y t = seam us y t

pub type-pushed : (ts : List Ty) (x : Ty) → type_in (ts ++ x ∷ []) (length ts) ≡ plain_type x
type-pushed [] x = refl
type-pushed (t ∷ ts) x = type-pushed ts x

pub nodes-stay : (q : PlainProcs) (N : Nodes) → AllFit q → NodesAre (source_of q) q.insts N → NodesMoved q q N N
nodes-stay q N fit are = record {
  others = refl;
  grown = grown-refl (source_of q) q.insts;
  overs = λ s k is h. h;
  joins = λ s k is h. h;
  types = take-length N.types.items;
  are = are;
  fit = fit;
}

-- one more is found in a graph that grew
pub over-moved : (q r : PlainProcs) (N M : Nodes) (n : ℕ) (js : List ℕ) (k : ℕ) → AllFit r → r ≡ with_insts q r.insts → Grown (source_of q) q.insts r.insts → NodesAre (source_of q) q.insts N
    → ((m : ℕ) (is : List ℕ) → node_in M.overs m is ≡ (if nat_eq m n && bytes_eq is js then Some k else node_in N.overs m is))
    → node_in N.overs n js ≡ None → M.joins ≡ N.joins → M.types ≡ N.types → k < count_of r.insts → IsOver (source_of q) (graph_of r.insts) k n js → NodesMoved q r N M
over-moved q r N M n js k fit o g are put none j t there over = record {
  others = o;
  grown = g;
  overs = put-kept N.overs M.overs n js k put none;
  joins = λ m v is h. rw j h;
  types = rw t (take-length N.types.items);
  are = one-more-over (source_of q) q.insts r.insts N M n js k g are put j t there over;
  fit = fit;
}

-- a type more was met; the joins of the others stay
pub types-moved : (P : Source) (I : Insts) (N M : Nodes) → NodesAre P I N → M.overs ≡ N.overs → M.joins ≡ N.joins → take (length N.types.items) M.types.items ≡ N.types.items → Once M.types.items → NodesAre P I M
types-moved P I N M are o j t once = record {
  overs = rw o are.overs;
  joins = rw j (λ r v is h. let x = are.joins r v is h in (longer r x.0, subst (StoodFor P I is v) (sym (type-kept N.types.items M.types.items r t x.0)) x.1));
  once = once;
}
  where
    longer : (r : ℕ) → r < length N.types.items → r < length M.types.items
    longer r h = omega (arith, h, length-take (length N.types.items) M.types.items, ap length t)

pub join-moved : (q r : PlainProcs) (N L M : Nodes) (n : ℕ) (js : List ℕ) (k : ℕ) → AllFit r → r ≡ with_insts q r.insts → Grown (source_of q) q.insts r.insts → NodesAre (source_of q) q.insts L
    → L.overs ≡ N.overs → L.joins ≡ N.joins → take (length N.types.items) L.types.items ≡ N.types.items
    → ((m : ℕ) (is : List ℕ) → node_in M.joins m is ≡ (if nat_eq m n && bytes_eq is js then Some k else node_in L.joins m is))
    → node_in L.joins n js ≡ None → M.overs ≡ L.overs → M.types ≡ L.types → n < length L.types.items → StoodFor (source_of q) r.insts js k (type_in L.types.items n) → NodesMoved q r N M
join-moved q r N L M n js k fit o g are a b c put none d t there stood = record {
  others = o;
  grown = g;
  overs = λ m v is h. rw (d, a) h;
  joins = λ m v is h. put-kept L.joins M.joins n js k put none m v is (rw b h);
  types = rw t c;
  are = one-more-join (source_of q) q.insts r.insts L M n js k g are put d t there stood;
  fit = fit;
}

pub join-found : (q : PlainProcs) (N L : Nodes) → AllFit q → NodesAre (source_of q) q.insts L → L.overs ≡ N.overs → L.joins ≡ N.joins → take (length N.types.items) L.types.items ≡ N.types.items → NodesMoved q q N L
join-found q N L fit are a b c = record {
  others = refl;
  grown = grown-refl (source_of q) q.insts;
  overs = λ m v is h. rw a h;
  joins = λ m v is h. rw b h;
  types = c;
  are = are;
  fit = fit;
}
