-- What files hold, what a source has left and what was put into a sink. Source: this project's
-- profile.
use Rattle.std.specs.Prelude.{◌≡◌, ℕ, ◌≤◌, List, [], ◌++◌, take, drop, length, Option, Some, None, Result, Ok, Err, ⊤}
use Rattle.std.specs.Ordering.{nat_cmp}
use Rattle.std.specs.Cmp.Lexicographic.{slice_cmp}
use Rattle.std.specs.FinMap as map
use Rattle.std.specs.declared.vec.Vec.{Vec}
use Rattle.std.specs.declared.alloc.Global.{Global}
use Rattle.mc_outside.specs.declared.traits.FileAnswer.{FileAnswer}
use Rattle.mc_outside.specs.declared.traits.FileAnswer.TheVariants as file
use Rattle.mc_outside.specs.declared.traits.PutFault.{PutFault}
use Rattle.mc_outside.specs.declared.traits.PutFault.TheVariants as put

-- bytes by name, where a name is the list of its bytes
abbrev pub Held : Type 0
Held = map.FinMap (slice_cmp nat_cmp) (List ℕ)

-- the most bytes of a file that are read: one more than 4 MiB
abbrev pub read_limit : ℕ
read_limit = 4194305

-- as much of a file as is read: its first 4,194,305 bytes, or all of them where it is shorter
abbrev pub first_part : List ℕ → List ℕ
first_part bytes = take read_limit bytes

-- the answer of a read of a name under which these bytes, or none, are held: a held file is never
-- absent, and what isn't held is never read
abbrev pub ReadsEntry : Option (List ℕ) → Result (Vec ℕ Global) FileAnswer → Type 0
ReadsEntry (Some bytes) (Ok read) = read.items ≡ first_part bytes
ReadsEntry (Some bytes) (Err file.Absent) = ⊥
ReadsEntry (Some bytes) (Err file.Failed) = ⊤
ReadsEntry (Some bytes) (Err file.Memory) = ⊤
ReadsEntry None (Ok read) = ⊥
ReadsEntry None (Err e) = ⊤

-- the answer of a read of a name, of which nothing is said where it isn't told what is held
abbrev pub Reads : Option Held → List ℕ → Result (Vec ℕ Global) FileAnswer → Type 0
Reads (Some held) name result = ReadsEntry (map.get held name) result
Reads None name result = ⊤

-- what is still told of the bytes left after a call that failed: nothing of which bytes they are
abbrev pub StaysTold : Option (List ℕ) → Type 0
StaysTold (Some after) = ⊤
StaysTold None = ⊥

-- what is left after a taking into a buffer: the bytes at the buffer's front are taken from the
-- front of what was left, and none are taken only where nothing was left
abbrev pub Takes : {E : Type 0} → Option (List ℕ) → Option (List ℕ) → Result ℕ E → List ℕ → Type 0
Takes (Some before) after (Ok count) buf =
    (after ≡ Some (drop count before))
    × (take count buf ≡ take count before)
    × (count ≤ length before)
    × (count ≡ 0 → before ≡ [])
Takes (Some before) after (Err e) buf = StaysTold after
Takes None after result buf = after ≡ None

-- what was put is what was there before and some part of the front of a text, be it nothing or all
-- of it; it stays untold where it was
abbrev pub PutsFront : Option (List ℕ) → Option (List ℕ) → List ℕ → Type 0
PutsFront (Some before) after text =
    (count : ℕ) × (count ≤ length text) × (after ≡ Some (before ++ take count text))
PutsFront None after text = after ≡ None

-- what was put after a put of a piece: the whole piece at the end, some part of its front where the
-- sink failed, and nothing at want of memory
abbrev pub Puts :
    {T : Type 0} → Option (List ℕ) → Option (List ℕ) → Result T PutFault → List ℕ → Type 0
Puts (Some before) after (Ok u) piece = after ≡ Some (before ++ piece)
Puts (Some before) after (Err put.Failed) piece = PutsFront (Some before) after piece
Puts (Some before) after (Err put.Memory) piece = after ≡ Some before
Puts None after result piece = after ≡ None
