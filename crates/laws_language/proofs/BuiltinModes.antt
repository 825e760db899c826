-- A builtin's modes are as many as its places.
use Rattle.std.proofs.Common.{◌≡◌, length, refl}
use Rattle.mc_model.specs.Outcomes.{inputs_of}
use Rattle.mc_accepted.specs.Ordered.{modes_of}
use Rattle.mc_program.specs.declared.builtin.Builtin.{Builtin}
use Rattle.mc_program.specs.declared.builtin.Builtin.TheVariants as B

pub modes_length : (op : Builtin) → length (inputs_of op) ≡ length (modes_of op)
modes_length B.IntPlus = refl
modes_length B.IntMinus = refl
modes_length B.IntTimes = refl
modes_length B.IntQuotient = refl
modes_length B.IntDiv = refl
modes_length B.IntMod = refl
modes_length B.IntRem = refl
modes_length B.IntNegate = refl
modes_length B.IntLess = refl
modes_length B.IntGreater = refl
modes_length B.IntAtMost = refl
modes_length B.IntAtLeast = refl
modes_length B.StringJoin = refl
modes_length B.StringLength = refl
modes_length B.StringCodePoints = refl
modes_length B.IntToString = refl
modes_length B.CharToString = refl
modes_length B.ToCharList = refl
modes_length B.StringToInt = refl
modes_length B.CharToInt = refl
modes_length B.CharFromInt = refl
modes_length B.CharIsDigit = refl
modes_length B.WriteString = refl
modes_length B.WriteChar = refl
modes_length B.WriteInt = refl
modes_length B.Write = refl
modes_length B.Nl = refl
modes_length B.ReadLine = refl
modes_length B.Error = refl
