-- What is decided of a command by what its sources are compiled to.
use Rattle.std.proofs.Common.{◌≡◌, ℕ, Bool, List, Option, Some, Ok, sym, subst}
use Rattle.mc_command_line.specs.Words.{Meaning}
use Rattle.mc_procs.specs.Procedures.{PlainProcs}
use Rattle.mc_compile.specs.Ruling.{PlainExecutable, plain_executable}
use Rattle.mc_compile.specs.Compiling.{Compiles}
use Rattle.mc_compile.specs.declared.executable.Executable.{Executable}
use Rattle.mc_compile.specs.declared.executable.Goal.{Goal}
use Rattle.mc_compile.specs.declared.given.Given.{Given}
use Rattle.mc_compile.specs.declared.given.Query.{Query as GivenQuery}
use Rattle.mc_compile.specs.Sources.{texts_of, text_of}
use Rattle.mc_compile.specs.Sources.{sources_of as given_sources, is_first as is_first_wanted}
use Rattle.mc_cmd.specs.Outcome.{sources_of, query_of, is_first, is_run}
use Rattle.mc_cmd.specs.declared.decision.Decision.{Decision}
use Rattle.mc_cmd.specs.declared.decision.Decision.TheVariants as D
use Rattle.mc_cmd.specs.code.Decisions.{IsAnswered, Understood}

-- what the compiler was given is the sources of the command
pub same_sources : (m : Meaning) (files : List Given) (q v : Option GivenQuery) (run : Bool) → v ≡ q → text_of q ≡ query_of m → is_first_wanted q ≡ is_first m → run ≡ is_run m → given_sources files v run ≡ sources_of m (texts_of files)
same_sources m files q v run e t f r = cc (e, t, f, r)

same_executable : (e : Executable) (q : PlainProcs) (goal : Goal) → e.procs ≡ q → e.goal ≡ Some goal → ◌≡◌ {A = PlainExecutable} (plain_executable e) (record { procs = q; goal = Some goal })
same_executable e q goal p g = cc (p, g)

understood_run : (m : Meaning) (texts : List (List ℕ)) (e : Executable) (d : Decision) → Compiles (sources_of m texts) (Ok (plain_executable e)) → IsAnswered m e d → Understood m texts d
understood_run m texts e D.Usage k a = absurd a
understood_run m texts e (D.Absent line) k a = absurd a
understood_run m texts e (D.Unreadable line) k a = absurd a
understood_run m texts e (D.Rejected fs broken) k a = absurd a
understood_run m texts e D.Checked k a = record { executable = plain_executable e; compiles = k; unasked = a }
understood_run m texts e (D.Ran bounds q goal) k a = record {
  compiles = subst (λ (x : PlainExecutable). Compiles (sources_of m texts) (Ok x)) (same_executable e q goal a.1.0 a.1.1) k;
  bounds = a.0;
}
understood_run m texts e D.Memory k a = absurd a

pub understood_ok : (m : Meaning) (texts : List (List ℕ)) (x : PlainExecutable) (e : Executable) (d : Decision) → Compiles (sources_of m texts) (Ok x) → plain_executable e ≡ x → IsAnswered m e d → Understood m texts d
understood_ok m texts x e d k p a = understood_run m texts e d (subst (λ (y : PlainExecutable). Compiles (sources_of m texts) (Ok y)) (sym p) k) a
