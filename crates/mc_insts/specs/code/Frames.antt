-- A type that is turned into a row from the inside: what stands around the part that is at hand.
use Rattle.std.specs.Prelude.{◌≡◌, ℕ, suc, ◌<◌, List, [], ◌∷◌, ◌++◌, length, map, drop}
use Rattle.mc_program.specs.Programs.{TypeTerm, union_type}
use Rattle.mc_program.specs.PlainPrograms.{type_terms, plain_type}
use Rattle.mc_model.specs.Types.{instance_of}
use Rattle.mc_insts.specs.declared.intern.Frame.{Frame}
use Rattle.mc_insts.specs.declared.intern.Climbed.{Climbed}
use Rattle.mc_insts.specs.declared.intern.Climbed.TheVariants as C
use Rattle.mc_insts.specs.code.TypeRows.{term_at, AllBelow, RowOf}

-- a union type around one of its arguments: the rows of those before it are there
abbrev pub around : List TypeTerm → (ℕ → TypeTerm) → Frame → TypeTerm → TypeTerm
around ts σ f t =
    union_type f.number
    (type_terms
    (map (term_at ts) f.rows.items
    ++ t ∷ map (instance_of σ) (map plain_type (drop (suc (length f.rows.items)) f.args.now))))

-- the frames, each around what follows, with a type innermost
abbrev pub rebuilt : List TypeTerm → (ℕ → TypeTerm) → List Frame → TypeTerm → TypeTerm
rebuilt ts σ [] t = t
rebuilt ts σ (f ∷ fs) t = around ts σ f (rebuilt ts σ fs t)

-- the rows of a frame are there, and one of its arguments is at hand
abbrev pub FrameFits : ℕ → Frame → Type 0
FrameFits n f = AllBelow n f.rows.items × (length f.rows.items < length f.args.now)

abbrev pub FramesFit : ℕ → List Frame → Type 0
FramesFit n [] = Unit {0}
FramesFit n (f ∷ fs) = FrameFits n f × FramesFit n fs

-- the whole type is there, or another part is at hand
abbrev pub Climbs : (ℕ → TypeTerm) → TypeTerm → List TypeTerm → List Frame → Climbed → Type 0
Climbs σ whole ts fs (C.Whole r) = RowOf ts r whole
Climbs σ whole ts fs (C.Next t) =
    (rebuilt ts σ fs (instance_of σ (plain_type t.now)) ≡ whole) × FramesFit (length ts) fs
