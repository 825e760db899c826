-- What holds while the graph grows and more insts are found.
use Rattle.std.proofs.Common.{◌≡◌, ℕ, ◌<◌, List, [], ◌∷◌, Bool, if◌then◌else◌, All, Some, refl, ap, ◌∙◌, subst, arith}
use Rattle.std.proofs.lemmas.List.Elements.{All-nil, All-cons, All-head, All-tail}
use Rattle.mc_program.specs.Programs.{TypeTerm, union_type, Source}
use Rattle.mc_program.specs.declared.ty.Ty.{Ty}
use Rattle.mc_model.specs.declared.sched.GoalNode.{GoalNode}
use Rattle.mc_model.specs.Good.{System}
use Rattle.mc_model.specs.Insts.{InstNode}
use Rattle.mc_accepted.specs.Determined.{allows_name, allowed_of, allowed_in}
use Rattle.mc_insts.specs.Graphs.{count_of}
use Rattle.mc_insts.specs.Growing.{Grown}
use Rattle.mc_procs.specs.Procedures.{PlainProcs, source_of, insts_of, as_system}
use Rattle.mc_mode_state.specs.Tables.{Entry}
use Rattle.mc_mode_state.proofs.Found.{grown-refl, grown-trans}
use Rattle.mc_switch.specs.declared.context.VariableContext.{VariableContext}
use Rattle.mc_switch.specs.declared.disjunct.Opened.{Opened}
use Rattle.mc_switch.specs.declared.groups.Group.{Group}
use Rattle.mc_switch.specs.Types.{InstsFit}
use Rattle.mc_switch.specs.Kept.{Extends, AreMerged, Merges, OnlyGrew, Suits, never_answers}
use Rattle.mc_switch.specs.code.Grouping.{AroundFits, EndsSo}
use Rattle.mc_switch.specs.code.Ends.{KeepsEnd}
use Rattle.mc_switch.specs.code.Parts.{KeepsEnds}

pub not_grown : (q : PlainProcs) → OnlyGrew q q
not_grown q = record { others = refl; grown = grown-refl (source_of q) q.insts }

pub grown_twice : (q r s : PlainProcs) → OnlyGrew q r → OnlyGrew r s → OnlyGrew q s
grown_twice q r s g h = record {
  others = h.others ∙ ap (λ (p : PlainProcs). record { program = p.program; insts = s.insts; preds = p.preds; added = p.added }) g.others;
  grown = grown-trans (source_of q) q.insts r.insts s.insts g.grown (subst (λ P. Grown P r.insts s.insts) (ap source_of g.others) h.grown);
}

pub suits_before : (q r : PlainProcs) (S : System) → OnlyGrew q r → Suits r S → Suits q S
suits_before q r S g s = record {
  source = s.source ∙ ap source_of g.others;
  insts = λ i lt. let m = g.grown.more in s.insts i (omega (arith, m, lt)) ∙ g.grown.same i lt;
  never = λ k. s.never k ∙ ap (λ (p : PlainProcs). never_answers p.added k) g.others;
}

pub fits_grown : (q r : PlainProcs) (types : List Ty) (insts : List ℕ) → OnlyGrew q r → InstsFit q types insts → InstsFit r types insts
fits_grown q r types insts g f = record {
  many = f.many;
  there = λ x. let m = g.grown.more in let t = f.there x in omega (arith, m, t);
}

pub around_grown : (q r : PlainProcs) (at : VariableContext) → OnlyGrew q r → AroundFits q at → AroundFits r at
around_grown q r at g f = record {
  before = fits_grown q r at.types.now at.before.now g f.before;
  after = fits_grown q r at.types.now at.after.now g f.after;
}

pub end_grown : (q r : PlainProcs) (types : List Ty) (insts : List ℕ) (never : Bool) (goal : GoalNode) → OnlyGrew q r → EndsSo q types insts never goal → EndsSo r types insts never goal
end_grown q r types insts never goal g e = record {
  told = λ S s. e.told S (suits_before q r S g s);
  there = λ x. let m = g.grown.more in let t = e.there x in omega (arith, m, t);
}

pub ends_grown : (q r : PlainProcs) (at : VariableContext) (os : List Opened) → OnlyGrew q r → All (KeepsEnd q at) os → All (KeepsEnd r at) os
ends_grown q r at [] g h = All-nil (KeepsEnd r at)
ends_grown q r at (o ∷ os) g h =
    All-cons (KeepsEnd r at) o os (end_grown q r at.types.now at.before.now o.never_ends o.goal g (All-head (KeepsEnd q at) o os h))
    (ends_grown q r at os g (All-tail (KeepsEnd q at) o os h))

pub groups_grown : (q r : PlainProcs) (at : VariableContext) (gs : List Group) → OnlyGrew q r → All (KeepsEnds q at) gs → All (KeepsEnds r at) gs
groups_grown q r at [] grew h = All-nil (KeepsEnds r at)
groups_grown q r at (g ∷ gs) grew h =
    All-cons (KeepsEnds r at) g gs (ends_grown q r at g.disjuncts.items grew (All-head (KeepsEnds q at) g gs h))
    (groups_grown q r at gs grew (All-tail (KeepsEnds q at) g gs h))

pub nothing_more : (q : PlainProcs) (types : List Ty) (N : List Entry) → AreMerged q types N → Merges q types N N
nothing_more q types N m = record { stays = λ x k is e. e; merged = m }

pub merges_twice : (q : PlainProcs) (types : List Ty) (N M L : List Entry) → Extends N M → Merges q types M L → Merges q types N L
merges_twice q types N M L e m = record { stays = λ x k is f. m.stays x k is (e x k is f); merged = m.merged }

-- the constructors that type and inst allow, in a system that suits
module _ (q : PlainProcs) (S : System) (s : Suits q S) (T : ℕ → TypeTerm) where
  allowed_there : (i : ℕ) → i < count_of q.insts → (ss : List ℕ) → allowed_of S T i ss ≡ allowed_of (as_system S.world.outcome q) T i ss
  allowed_there i lt [] = refl
  allowed_there i lt (f ∷ ss) =
      ap (λ (N : InstNode). if allows_name N (S.world.source.symbols f).name then f ∷ allowed_of S T i ss else allowed_of S T i ss) (s.insts i lt)
      ∙ ap (λ (P : Source). if allows_name (insts_of q i) (P.symbols f).name then f ∷ allowed_of S T i ss else allowed_of S T i ss) s.source
      ∙ ap (λ (gs : List ℕ). if allows_name (insts_of q i) ((source_of q).symbols f).name then f ∷ gs else gs) (allowed_there i lt ss)

  pub allowed_suits : (t : TypeTerm) (i : ℕ) → i < count_of q.insts → allowed_in S T t i ≡ allowed_in (as_system S.world.outcome q) T t i
  allowed_suits (union_type u ts) i lt =
      ap (λ (P : Source). Some (allowed_of S T i (P.symbols_of u))) s.source
      ∙ ap Some (allowed_there i lt ((source_of q).symbols_of u))
  allowed_suits t i lt = refl
