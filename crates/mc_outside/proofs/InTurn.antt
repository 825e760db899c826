-- Pieces that are put in turn.
use Rattle.std.proofs.Common.{ℕ, ◌+◌, List, ◌++◌, length, Option, Some, None, Result, Ok, Err, ap, sym, ◌∙◌, arith, append_assoc, length-append}
use Rattle.std.proofs.Math.Seq.{take-append-add}
use Rattle.std.proofs.lemmas.List.{take-append-le}
use Rattle.std.proofs.lemmas.Grind.{common_steps}
use Rattle.mc_outside.specs.declared.traits.PutFault.{PutFault}
use Rattle.mc_outside.specs.declared.traits.PutFault.TheVariants as put
use Rattle.mc_outside.specs.Meaning.{Puts, PutsFront}

-- whatever a put answers, some part of the front of its piece was put
pub Puts-front : {T : Type 0} (before after : Option (List ℕ)) (result : Result T PutFault) (piece : List ℕ) → Puts before after result piece → PutsFront before after piece
Puts-front None after result piece puts = puts
Puts-front (Some before) after (Ok u) piece puts = (length piece, omega arith, grind (arith, common_steps))
Puts-front (Some before) after (Err put.Failed) piece puts = puts
Puts-front (Some before) after (Err put.Memory) piece puts = (0, omega arith, grind (arith, common_steps))

-- a part of the front of a text is one of each longer text
pub PutsFront-longer : (before after : Option (List ℕ)) (text more : List ℕ) → PutsFront before after text → PutsFront before after (text ++ more)
PutsFront-longer None after text more puts = puts
PutsFront-longer (Some before) after text more (count, fits, is) =
    (count, omega (arith, length-append text more), is ∙ ap (λ part. Some (before ++ part)) (sym (take-append-le count text more fits)))

-- after a text that was put whole comes a part of the front of the next
pub PutsFront-after : {T : Type 0} (u : T) (before between after : Option (List ℕ)) (text more : List ℕ) → Puts before between (Ok u) text → PutsFront between after more → PutsFront before after (text ++ more)
PutsFront-after u None between after text more puts front = rw puts at front
PutsFront-after u (Some before) between after text more puts front =
    let (count, fits, is) = rw puts at front in
    (length text + count, omega (arith, length-append text more), rw (take-append-add text more count) (rw append_assoc at is))
