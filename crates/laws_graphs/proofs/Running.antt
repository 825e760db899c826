-- Procedures whose bodies follow one another run as one bare form.
use Rattle.std.proofs.Common.{◌≡◌, ℕ, List, [], refl, ap, ap₂, sym, ◌∙◌}
use Rattle.std.proofs.Math.Path.{fun_ext}
use Rattle.mc_program.specs.Programs.{TypeTerm, Source}
use Rattle.mc_source.specs.Determinism.{inferred, det}
use Rattle.mc_model.specs.Scheduled.{Node, node, Scheduled, Conj, Disj, Switch, Ite, Not, Exists, Nodes, node_then, Arms, arm_then, Procedure}
use Rattle.mc_model.specs.Stream.{run_call, run_query}
use Rattle.mc_model.specs.Bare.{bare_node, bare_scheduled, bare_nodes, bare_arms, bare_procedure}
use Rattle.mc_accepted.specs.Ordered.{Insts}
use Rattle.laws_language.specs.BareLaws.{each_bare}
use Rattle.laws_language.proofs.BareRuns.{calls_run_bare, queries_run_bare}
use Rattle.laws_graphs.specs.Nodes.{MeanOne}
use Rattle.laws_graphs.specs.Follows.{Follows, follows, FollowsIn, atom, conj, disj, switch, ite, negated, some, AllFollow, no_more, and_then, EachFollows, no_other, either, ArmsFollow, no_arm, arm}
use Rattle.laws_graphs.specs.RunLaws.{OneRun}
use Rattle.laws_graphs.proofs.AlikeInsts.{each-bare}

module _ (P : Source) (T : ℕ → TypeTerm) (first : ℕ) (R : TypeTerm → ℕ → ℕ → Type 0) where
  mutual
    pub bare-same : (b c : Insts) (n m : Node) → Follows P T first R b c n m → bare_node n ≡ bare_node m
    bare-same b c n m (follows {s = s} {r = r} {m = t} f a) = ap (λ (x : Scheduled). node x [] (inferred det) t) (bare-in-same b c s r f)

    bare-in-same : (b c : Insts) (s r : Scheduled) → FollowsIn P T first R b c s r → bare_scheduled s ≡ bare_scheduled r
    bare-in-same b c s r (atom a) = refl
    bare-in-same b c s r (conj f) = ap Conj (bare-all-same b c _ _ f)
    bare-in-same b c s r (disj f) = ap Disj (bare-each-same b c _ _ f)
    bare-in-same b c s r (switch {x = x} lt f) = ap (Switch x) (bare-arms-same b c _ _ f)
    bare-in-same b c s r (ite {vs = vs} {g = g} {h = h} {k = k} {g' = g'} {h' = h'} {k' = k'} f l e) =
        ap (λ (x : Node). Ite vs x (bare_node h) (bare_node k)) (bare-same b c g g' f) ∙ ap₂ (λ (x y : Node). Ite vs (bare_node g') x y) (bare-same _ _ h h' l) (bare-same b c k k' e)
    bare-in-same b c s r (negated f) = ap Not (bare-same b c _ _ f)
    bare-in-same b c s r (some {vs = vs} f) = ap (Exists vs) (bare-same b c _ _ f)

    bare-all-same : (b c : Insts) (ns ms : Nodes) → AllFollow P T first R b c ns ms → bare_nodes ns ≡ bare_nodes ms
    bare-all-same b c ns ms no_more = refl
    bare-all-same b c ns ms (and_then f g) = ap₂ node_then (bare-same b c _ _ f) (bare-all-same _ _ _ _ g)

    bare-each-same : (b c : Insts) (ns ms : Nodes) → EachFollows P T first R b c ns ms → bare_nodes ns ≡ bare_nodes ms
    bare-each-same b c ns ms no_other = refl
    bare-each-same b c ns ms (either f g) = ap₂ node_then (bare-same b c _ _ f) (bare-each-same b c _ _ g)

    bare-arms-same : (b c : Insts) (ns ms : Arms) → ArmsFollow P T first R b c ns ms → bare_arms ns ≡ bare_arms ms
    bare-arms-same b c ns ms no_arm = refl
    bare-arms-same b c ns ms (arm {l = l} f g) = ap₂ (arm_then l) (bare-same b c _ _ f) (bare-arms-same b c _ _ g)

pub one-run : OneRun
one-run P m n G H procs others f outcome budget height k = (
  (λ vs. sym (calls_run_bare outcome procs budget height k vs) ∙ (ap (λ (ps : ℕ → Procedure). run_call outcome ps budget height k vs) all-bare ∙ calls_run_bare outcome others budget height k vs)),
  sym (queries_run_bare outcome procs budget height (procs k))
      ∙ (ap₂ (λ (ps : ℕ → Procedure) (q : Procedure). run_query outcome ps budget height q) all-bare (each-one k) ∙ queries_run_bare outcome others budget height (others k)),
)
  where
    each-one : (j : ℕ) → bare_procedure (procs j) ≡ bare_procedure (others j)
    each-one j =
        let x = f j in
        let q = others j in
        ap (λ (b : Node). record (bare_procedure (procs j)) { body = b }) (bare-same P x.types x.variables (MeanOne P m G n H) _ _ (procs j).body q.body x.body)
        ∙ (ap₂ (λ (is ls : List ℕ). record (bare_procedure (procs j)) { first = is; last = ls; body = bare_node q.body }) (each-bare (procs j).first q.first x.first) (each-bare (procs j).last q.last x.last)
        ∙ sym (ap bare_procedure x.others))

    all-bare : each_bare procs ≡ each_bare others
    all-bare = fun_ext each-one
