-- The bytes of a text, in the text itself or in a block of their own.
use Rattle.std.specs.Prelude.{ℕ, List, length, take, ◌<◌, ◌≤◌, ◌^◌}
use Rattle.mc_base.specs.declared.text.Bytes.{Bytes}
use Rattle.mc_base.specs.declared.text.Bytes.TheVariants as B

abbrev pub bytes_in : Bytes → List ℕ
bytes_in (B.Inline count room) = take count room
bytes_in (B.Block bytes) = bytes.value.items

abbrev pub IsSound : Bytes → Type 0
IsSound (B.Inline count room) = count ≤ 22
IsSound (B.Block bytes) = length bytes.value.items < 2 ^ 32
