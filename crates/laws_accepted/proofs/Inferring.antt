-- Allowing as a test, `join`, and the one least assignment.
use Rattle.std.proofs.Math.Path.{fun_ext}
use Rattle.std.proofs.lemmas.Bool.{cases_lt}
use Rattle.std.proofs.Common.{⊎_elim, ℕ, ◌≡◌, ◌<◌, ◌≤◌, Bool, true, false, ◌||◌, IsTrue, Option, Some, None, refl, sym, ap, ap₂, ◌∙◌, arith}
use Rattle.mc_source.specs.Determinism.{Determinism, row_of, rank, greater}
use Rattle.mc_source.specs.declared.det.Det.{Det}
use Rattle.mc_source.specs.declared.det.Most.{Most}
use Rattle.mc_source.specs.declared.det.Most.TheVariants.{Zero, One, Many}
use Rattle.mc_accepted.specs.Inferred.{DeclaredSystem, LeastClosed}
use Rattle.mc_accepted.specs.DeterminismFaults.{determinism_faults}
use Rattle.laws_accepted.specs.FaultLaws.{AllowsTells, FaultsAreOne, JoinIsLeast, LeastIsOne}
use Rattle.laws_language.proofs.Monotone.{to_allows, from_allows, allows_one_way}

pub allows_tells : AllowsTells
allows_tells d i = (to_allows d i, from_allows d i)

at_most_first : (a b : Most) → rank a ≤ rank (greater a b)
at_most_first Zero b = omega arith
at_most_first One Zero = omega arith
at_most_first One One = omega arith
at_most_first One Many = omega arith
at_most_first Many b = omega arith

at_most_second : (a b : Most) → rank b ≤ rank (greater a b)
at_most_second Zero b = omega arith
at_most_second One Zero = omega arith
at_most_second One One = omega arith
at_most_second One Many = omega arith
at_most_second Many Zero = omega arith
at_most_second Many One = omega arith
at_most_second Many Many = omega arith

no_more : (a b c : Most) → rank a ≤ rank c → rank b ≤ rank c → rank (greater a b) ≤ rank c
no_more Zero b c h k = k
no_more One Zero c h k = h
no_more One One c h k = h
no_more One Many c h k = k
no_more Many b c h k = h

first_true : (p q : Bool) → IsTrue p → IsTrue (p || q)
first_true true q h = refl
first_true false q h = cc

second_true : (p q : Bool) → IsTrue q → IsTrue (p || q)
second_true true q h = refl
second_true false q h = h

one_true : (p q r : Bool) → (IsTrue p → IsTrue r) → (IsTrue q → IsTrue r) → IsTrue (p || q) → IsTrue r
one_true true q r f g h = f refl
one_true false q r f g h = g h

pub join_is_least : JoinIsLeast
join_is_least a b = (
  ((λ h. first_true a.can_fail b.can_fail h), at_most_first a.most b.most),
  ((λ h. second_true a.can_fail b.can_fail h), at_most_second a.most b.most),
  λ c h k. ((λ t. one_true a.can_fail b.can_fail c.can_fail h.0 k.0 t), no_more a.most b.most c.most h.1 k.1),
)

-- one that isn't committed is its row
same_row : (a b : Det) → a.committed ≡ false → b.committed ≡ false → row_of a ≡ row_of b → a ≡ b
same_row a b p q e = rows a.can_fail b.can_fail a.most b.most a.committed b.committed p q e
  where
    rows :
        (f g : Bool) (m n : Most) (c d : Bool) → c ≡ false → d ≡ false
        → row_of (record { can_fail = f; most = m; committed = c }) ≡ row_of (record { can_fail = g; most = n; committed = d })
        → (let x : Det = record { can_fail = f; most = m; committed = c } in x) ≡ record { can_fail = g; most = n; committed = d }
    rows f g m n true d p q e = cc
    rows f g m n false true p q e = cc
    rows f g m n false false p q e =
        ap₂ (λ (t : Bool) (u : Most). let x : Det = record { can_fail = t; most = u; committed = false } in x)
        (ap (λ (r : Determinism). r.can_fail) e) (ap (λ (r : Determinism). r.most) e)

same_below : (D : DeclaredSystem) (ds es : ℕ → Det) → LeastClosed D ds → LeastClosed D es → (k : ℕ) → k < D.count → ds k ≡ es k
same_below D ds es h g k l = by_declared (D.procs k).declared refl
  where
    by_declared : (o : Option Det) → (D.procs k).declared ≡ o → ds k ≡ es k
    by_declared (Some d) q = h.closed.declared k d l q ∙ sym (g.closed.declared k d l q)
    by_declared None q =
        same_row (ds k) (es k) (h.closed.uncommitted k l q) (g.closed.uncommitted k l q)
        (allows_one_way (row_of (ds k)) (row_of (es k)) (h.least es g.closed k l) (g.least ds h.closed k l))

pub least_is_one : LeastIsOne
least_is_one D ds es h g =
    fun_ext (λ k. ⊎_elim (λ l. same_below D ds es h g k l) (λ l. h.closed.others k l ∙ sym (g.closed.others k l)) (cases_lt k D.count))

pub faults_are_one : FaultsAreOne
faults_are_one runs D ds es h g = ap (determinism_faults runs D) (least_is_one D ds es h g)
