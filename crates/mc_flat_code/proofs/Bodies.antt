-- Bodies stand for procedures one after another.
use Rattle.std.proofs.Common.{◌≡◌, ℕ, zero, suc, ◌<◌, ◌+◌, refl, sym, ap, ◌∙◌, subst, List, [], ◌∷◌, ◌++◌, length, take, get_or, map, arith}
use Rattle.std.proofs.Math.Seq.{take-length}
use Rattle.std.proofs.lemmas.List.{take_more, map_push}
use Rattle.mc_model.specs.Scheduled.{Procedure}
use Rattle.mc_model.specs.PlainGoals.{plain_proc}
use Rattle.mc_model.specs.declared.sched.Proc.{Proc}
use Rattle.mc_flat_code.specs.Running.{no_body}
use Rattle.mc_flat_code.specs.Standing.{whole_body, StandsFor, StandsForAll, no_procedure, procedure_at}
use Rattle.mc_flat_code.specs.code.Building.{Grows}
use Rattle.mc_flat_code.specs.code.Bodies.{EachStands}
use Rattle.mc_flat_code.specs.declared.code.Code.{Code}
use Rattle.mc_flat_code.specs.declared.code.Body.{Body}
use Rattle.mc_flat_code.specs.declared.code.FlatProgram.{FlatProgram}
use Rattle.mc_flat_code.proofs.Growth.{stands_grows, variables_grow}

pub body_grows : (old new : Code) → Grows old new → (b : Body) (p : Procedure) → StandsFor old b p → StandsFor new b p
body_grows old new g b p s =
    record {
      body = stands_grows old new g (whole_body p) 0 b.entry s.body;
      head = variables_grow old new g b.head p.head s.head;
      first = variables_grow old new g b.first p.first s.first;
      last = variables_grow old new g b.last p.last s.last;
      size = s.size;
    }

each_grows : (old new : Code) → Grows old new → (bs : List Body) (ps : List Procedure) → EachStands old bs ps → EachStands new bs ps
each_grows old new g [] [] x = tt
each_grows old new g [] (p ∷ ps) x = absurd x
each_grows old new g (b ∷ bs) [] x = absurd x
each_grows old new g (b ∷ bs) (p ∷ ps) x = (body_grows old new g b p x.0, each_grows old new g bs ps x.1)

each_more : (code : Code) (bs : List Body) (b : Body) (ps : List Procedure) (p : Procedure) → EachStands code bs ps → StandsFor code b p → EachStands code (bs ++ b ∷ []) (ps ++ p ∷ [])
each_more code [] b [] p x s = (s, tt)
each_more code [] b (r ∷ ps) p x s = absurd x
each_more code (d ∷ bs) b [] p x s = absurd x
each_more code (d ∷ bs) b (r ∷ ps) p x s = (x.0, each_more code bs b ps p x.1 s)

pub bodies_step : (old new : Code) → Grows old new → (bs : List Body) (b : Body) (procs : List Proc) (k : ℕ) (d : Proc) → k < length procs → EachStands old bs (map plain_proc (take k procs)) → StandsFor new b (plain_proc (get_or procs k d)) → EachStands new (bs ++ b ∷ []) (map plain_proc (take (k + 1) procs))
bodies_step old new g bs b procs k d h x s =
    subst (EachStands new (bs ++ b ∷ [])) (sym (ap (map plain_proc) (take_more procs k d h) ∙ map_push plain_proc (take k procs) (get_or procs k d)))
    (each_more new bs b (map plain_proc (take k procs)) (plain_proc (get_or procs k d)) (each_grows old new g bs (map plain_proc (take k procs)) x) s)

-- no procedure has no code
none_stands : (code : Code) → StandsFor code no_body no_procedure
none_stands code =
    record {
      body = refl;
      head = record { within = omega arith; elements = refl };
      first = record { within = omega arith; elements = refl };
      last = record { within = omega arith; elements = refl };
      size = refl;
    }

each_at : (code : Code) (bs : List Body) (ps : List Procedure) → EachStands code bs ps → (k : ℕ) → StandsFor code (get_or bs k no_body) (get_or ps k no_procedure)
each_at code [] [] x k = none_stands code
each_at code [] (p ∷ ps) x k = absurd x
each_at code (b ∷ bs) [] x k = absurd x
each_at code (b ∷ bs) (p ∷ ps) x zero = x.0
each_at code (b ∷ bs) (p ∷ ps) x (suc k) = each_at code bs ps x.1 k

pub bodies_whole : (f : FlatProgram) (procs : List Proc) (k : ℕ) → k ≡ length procs → EachStands f.code f.bodies.items (map plain_proc (take k procs)) → StandsForAll f (procedure_at procs)
bodies_whole f procs k e x =
    each_at f.code f.bodies.items (map plain_proc procs)
    (subst (λ qs. EachStands f.code f.bodies.items (map plain_proc qs)) (ap (λ j. take j procs) e ∙ take-length procs) x)
