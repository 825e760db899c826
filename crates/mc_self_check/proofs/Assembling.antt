-- A procedure fits exactly where its numbers name what is there, it fits its predicate, and its insts are tidy.
use Rattle.std.proofs.Common.{◌≡◌, ◌↔◌, ℕ, zero, suc, List, [], ◌∷◌, get_or, map, sym, ap, subst, ◌∙◌}
use Rattle.mc_program.specs.Programs.{TypeTerm, variable_type, Predicate}
use Rattle.mc_model.specs.Flat.{Flat_goal}
use Rattle.mc_model.specs.Outcomes.{fails}
use Rattle.mc_model.specs.Scheduled.{Procedure}
use Rattle.mc_accepted.specs.ProperTypes.{Parameters, ProperType, EachProper}
use Rattle.mc_accepted.specs.Tidy.{EachTidy}
use Rattle.mc_accepted.specs.Typing.{TypedGoal}
use Rattle.mc_insts.specs.declared.insts.Insts.{Insts}
use Rattle.mc_insts.specs.Graphs.{graph_of, count_of}
use Rattle.mc_procs.specs.Named.{NumbersBelow, Named}
use Rattle.mc_procs.specs.Procedures.{PlainProcs, source_of, insts_of, parameters_of, with_insts}
use Rattle.mc_procs.specs.Fitting.{ProcedureFits, bounds_of}
use Rattle.mc_self_check.specs.ProcedureGoal.{normal_body}
use Rattle.mc_self_check.specs.code.Parts.{NumbersFit, FitsPredicate}

pub each_type : (D : Parameters) (ts : List TypeTerm) → EachProper D ts → (x v : ℕ) → ProperType D (get_or ts x (variable_type v))
each_type D [] h x v = tt
each_type D (t ∷ ts) h zero v = h.0
each_type D (t ∷ ts) h (suc x) v = each_type D ts h.1 x v

-- `own` gives what stands past the last type
all_proper : (D : Parameters) (ts : List TypeTerm) (own : ℕ → ℕ) → ((x : ℕ) → ProperType D (get_or ts x (variable_type (own x)))) → EachProper D ts
all_proper D [] own h = tt
all_proper D (t ∷ ts) own h = (h zero, all_proper D ts (λ x. own (suc x)) (λ x. h (suc x)))

pub each_proper : (D : Parameters) (ts : List TypeTerm) → ((x : ℕ) → ProperType D (get_or ts x (variable_type x))) → EachProper D ts
each_proper D ts = all_proper D ts (λ x. x)

-- the types of the procedure's head variables
abbrev head_types : Procedure → List TypeTerm
head_types p = map (λ x. get_or p.var_types x (variable_type x)) p.head

abbrev EachTidyIn : PlainProcs → List ℕ → Procedure → Type 0
EachTidyIn q insts p = EachTidy (source_of q) (insts_of q) insts (head_types p)

-- Other insts with the same graph tell the same.
with_same : (q : PlainProcs) (J : Insts) (p : Procedure) → graph_of J ≡ insts_of q → count_of J ≡ count_of q.insts → ProcedureFits q p → ProcedureFits (with_insts q J) p
with_same q J p graph count f =
    record {
      head = f.head;
      first = subst (λ n. NumbersBelow n p.first) (sym count) f.first;
      last = subst (λ n. NumbersBelow n p.last) (sym count) f.last;
      body = subst (λ n. Named (record (bounds_of q p) { insts = n }) p.body) (sym count) f.body;
      fits = λ outcome.
          let g = f.fits outcome in
          record {
            heads = g.heads;
            scopes = g.scopes;
            types = g.types;
            head_types = g.head_types;
            typed = g.typed;
            tidy = (
              subst (λ G. EachTidy (source_of q) G p.first ((source_of q).preds p.pred).types) (sym graph) g.tidy.0,
              subst (λ G. EachTidy (source_of q) G p.last ((source_of q).preds p.pred).types) (sym graph) g.tidy.1,
            );
            no_builtin = g.no_builtin;
          };
    }

-- what changes insts twice changes them once
pub then_others : (q r s : PlainProcs) → r ≡ with_insts q r.insts → s ≡ with_insts r s.insts → s ≡ with_insts q s.insts
then_others q r s first then = then ∙ ap (λ (x : PlainProcs). with_insts x s.insts) first

pub same_fits : (q r : PlainProcs) (p : Procedure) → r ≡ with_insts q r.insts → insts_of r ≡ insts_of q → count_of r.insts ≡ count_of q.insts → ProcedureFits q p ↔ ProcedureFits r p
same_fits q r p others graph count = (
  λ f. subst (λ s. ProcedureFits s p) (sym others) (with_same q r.insts p graph count f),
  λ f. with_same (with_insts q r.insts) q.insts p (sym graph) (sym count) (subst (λ s. ProcedureFits s p) others f),
)

pub numbers_of : (q : PlainProcs) (p : Procedure) → ProcedureFits q p → NumbersFit q p
numbers_of q p f = record { head = f.head; first = f.first; last = f.last; body = f.body }

module _ (q : PlainProcs) (p : Procedure) (d : Predicate) (goal : Flat_goal)
    (there : (source_of q).preds p.pred ≡ d) (is : goal ≡ normal_body (source_of q) p.pred) where
  pub it_fits : NumbersFit q p → FitsPredicate (source_of q) (parameters_of q) d goal p → EachTidyIn q p.first p → EachTidyIn q p.last p → ProcedureFits q p
  it_fits numbers fits first last =
      let f = subst (λ e. FitsPredicate (source_of q) (parameters_of q) e goal p) (sym there) fits in
      record {
        head = numbers.head;
        first = numbers.first;
        last = numbers.last;
        body = numbers.body;
        fits = λ outcome. record {
          heads = f.heads;
          scopes = f.scopes;
          types = f.types;
          head_types = f.head_types;
          typed = subst (TypedGoal (source_of q) (λ x. get_or p.var_types x (variable_type x))) is f.typed;
          tidy = (
            subst (EachTidy (source_of q) (insts_of q) p.first) f.head_types first,
            subst (EachTidy (source_of q) (insts_of q) p.last) f.head_types last,
          );
          no_builtin = f.no_builtin;
        };
      }

  pub predicate_of : ProcedureFits q p → FitsPredicate (source_of q) (parameters_of q) d goal p
  predicate_of fits =
      let f = fits.fits (λ op values. fails) in
      subst (λ e. FitsPredicate (source_of q) (parameters_of q) e goal p) there
      (record {
        heads = f.heads;
        scopes = f.scopes;
        types = f.types;
        head_types = f.head_types;
        typed = subst (TypedGoal (source_of q) (λ x. get_or p.var_types x (variable_type x))) (sym is) f.typed;
        no_builtin = f.no_builtin;
      })

pub first_of : (q : PlainProcs) (p : Procedure) → ProcedureFits q p → EachTidyIn q p.first p
first_of q p fits =
    let f = fits.fits (λ op values. fails) in
    subst (EachTidy (source_of q) (insts_of q) p.first) (sym f.head_types) f.tidy.0

pub last_of : (q : PlainProcs) (p : Procedure) → ProcedureFits q p → EachTidyIn q p.last p
last_of q p fits =
    let f = fits.fits (λ op values. fails) in
    subst (EachTidy (source_of q) (insts_of q) p.last) (sym f.head_types) f.tidy.1
