-- Signatures over nodes mean what those over the numbers of insts say.
use Rattle.std.proofs.Common.{ℕ, suc, List, [], ◌∷◌, ◌∙◌}
use Rattle.std.specs.Prelude.{Option}
use Rattle.mc_program.specs.declared.builtin.Builtin.{Builtin}
use Rattle.mc_model.specs.declared.inst.ModeDecl.{ModeDecl}
use Rattle.mc_model.specs.declared.inst.Sig.{Sig}
use Rattle.mc_accepted.specs.InstRules.{PlainInstDef, InstTerm}
use Rattle.mc_names.specs.Linked.{Linked}
use Rattle.mc_insts.specs.Defining.{IsNode}
use Rattle.mc_inst_table.specs.Written.{ModeTerm}
use Rattle.mc_inst_table.specs.Rules.{inst_bodies}
use Rattle.mc_signatures.specs.WrittenModes.{PlainMode}
use Rattle.mc_signatures.specs.MeantModes.{MeansMode}
use Rattle.mc_signatures.specs.Signatures.{EachMeans, IsDeclared, number_or_none, next_number, next_behind, AreDeclared, AreSignatures}
use Rattle.mc_signatures.specs.code.Definitions.{GoesBetween}
use Rattle.mc_signatures.specs.code.Rows.{reference, IsExpanded, AreNumbered, IsPlaced, ModesPlaced, SigsPlaced}
use Rattle.mc_signatures.proofs.Meaning.{is_meant}

module _ (l : Linked) (ts : List InstTerm) (ds : List PlainInstDef) (expanded : IsExpanded (inst_bodies l) ts ds) where
  means : (m : ModeTerm) (a b i j : ℕ) → GoesBetween l ts m a b → IsNode ds 4 (reference a) i → IsNode ds 4 (reference b) j → MeansMode l ds m i j
  means m a b i j g first last =
      record {
        from = g.from;
        to = g.to;
        goes = g.goes;
        is_first = is_meant (inst_bodies l) ts ds a i g.from expanded g.is_first first;
        is_last = is_meant (inst_bodies l) ts ds b j g.to expanded g.is_last last;
      }

  each_means : (ms : List ModeTerm) (ks ls is js : List ℕ) → EachMeans (GoesBetween l ts) ms ks ls → AreNumbered ds ks is → AreNumbered ds ls js → EachMeans (MeansMode l ds) ms is js
  each_means [] [] [] [] [] each first last = tt
  each_means [] [] [] [] (j ∷ js) each first last = absurd last
  each_means [] [] [] (i ∷ is) js each first last = absurd first
  each_means [] [] (b ∷ ls) is js each first last = absurd each
  each_means [] (a ∷ ks) ls is js each first last = absurd each
  each_means (m ∷ ms) [] ls is js each first last = absurd each
  each_means (m ∷ ms) (a ∷ ks) [] is js each first last = absurd each
  each_means (m ∷ ms) (a ∷ ks) (b ∷ ls) [] js each first last = absurd first
  each_means (m ∷ ms) (a ∷ ks) (b ∷ ls) (i ∷ is) [] each first last = absurd last
  each_means (m ∷ ms) (a ∷ ks) (b ∷ ls) (i ∷ is) (j ∷ js) each first last =
      (means m a b i j each.0 first.0 last.0, each_means ms ks ls is js each.1 first.1 last.1)

  declared : (n : ℕ) (w : PlainMode) (m p : ModeDecl) → IsDeclared (GoesBetween l ts) n w m → IsPlaced ds m p → IsDeclared (MeansMode l ds) n w p
  declared n w m p d placed =
      record {
        proc = placed.proc ∙ d.proc;
        insts = each_means w.modes m.first m.last p.first p.last d.insts placed.first placed.last;
        det = placed.det ∙ d.det;
        at = placed.at ∙ d.at;
      }

  all_declared : (op : Option Builtin) (n : ℕ) (ws : List PlainMode) (ms ps : List ModeDecl) → AreDeclared (GoesBetween l ts) op n ws ms → ModesPlaced ds ms ps → AreDeclared (MeansMode l ds) op n ws ps
  all_declared op n [] [] [] are placed = tt
  all_declared op n [] [] (p ∷ ps) are placed = absurd placed
  all_declared op n [] (m ∷ ms) ps are placed = absurd are
  all_declared op n (w ∷ ws) [] ps are placed = absurd are
  all_declared op n (w ∷ ws) (m ∷ ms) [] are placed = absurd placed
  all_declared op n (w ∷ ws) (m ∷ ms) (p ∷ ps) are placed =
      (declared (number_or_none op n) w m p are.0 placed.0, all_declared op (next_number op n) ws ms ps are.1 placed.1)

  pub all_signed : (op : ℕ → Option Builtin) (p n : ℕ) (rows : List (List PlainMode)) (ss us : List Sig) → AreSignatures (GoesBetween l ts) op p n rows ss → SigsPlaced ds ss us → AreSignatures (MeansMode l ds) op p n rows us
  all_signed op p n [] [] [] are placed = tt
  all_signed op p n [] [] (u ∷ us) are placed = absurd placed
  all_signed op p n [] (s ∷ ss) us are placed = absurd are
  all_signed op p n (ws ∷ rows) [] us are placed = absurd are
  all_signed op p n (ws ∷ rows) (s ∷ ss) [] are placed = absurd placed
  all_signed op p n (ws ∷ rows) (s ∷ ss) (u ∷ us) are placed = (
    placed.0 ∙ are.0,
    all_declared (op p) n ws s.modes u.modes are.1 placed.1,
    all_signed op (suc p) (next_behind (op p) n ws) rows ss us are.2 placed.2,
  )
