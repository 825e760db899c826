-- What a verdict stands for.
use Rattle.mc_decl_syntax.specs.Plain.{plain_item}
use Rattle.mc_items.specs.declared.judged.Verdict.{Verdict}
use Rattle.mc_items.specs.declared.judged.Verdict.TheVariants as V
use Rattle.mc_items.specs.Verdicts.{PlainVerdict, kept, breaks}

abbrev pub plain_verdict : Verdict → PlainVerdict
plain_verdict (V.Kept decl) = kept (plain_item decl)
plain_verdict (V.Breaks rule what) = breaks rule what
