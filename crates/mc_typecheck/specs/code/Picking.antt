-- What a step more adds to the picks.
use Rattle.std.specs.Prelude.{◌≡◌, ℕ, List, [], ◌∷◌, ◌++◌, length, Bool, Option, Some, None, slice_index_or}
use Rattle.mc_program.specs.Programs.{Source}
use Rattle.mc_accepted.specs.ProperTypes.{Parameters}
use Rattle.mc_accepted.specs.Resolving.{Step}
use Rattle.mc_source.specs.declared.name.Candidate.{Candidate}
use Rattle.mc_typecheck.specs.Ties.{Tie, of_equation, offered, pick_of, tied, picks_of}
use Rattle.mc_typecheck.specs.Walked.{Stand, ShowsStep, after}
use Rattle.mc_typecheck.specs.declared.table.Signatures.{Signatures}
use Rattle.mc_typecheck.specs.declared.picking.Picking.{Picking}

-- the pick of a choice, where there is one, of a name that has so many types
abbrev pub noted :
    (P : Source) (D : Parameters) (passes : Candidate → Bool) → List Candidate → (count : ℕ)
    → Option ℕ → List Candidate
noted P D passes cs n None = []
noted P D passes cs n (Some c) =
    pick_of (slice_index_or (offered P D passes n [] cs) c of_equation)

-- whatever is picked of ties behind this name: the picks are the same
abbrev pub Picks :
    (P : Source) (D : Parameters) (passes : Candidate → Bool) → List Candidate → (count : ℕ)
    → (before after : Picking) → Type 0
Picks P D passes cs n p q =
    (places : List ℕ) (ties : List Tie)
    → p.picks.items
    ++ picks_of (record { meanings = offered P D passes n [] cs; places = places } ∷ ties) p.choices.now
    ≡ q.picks.items ++ picks_of ties q.choices.now

-- From wherever a walk stood, whatever steps follow: the picks are the same.
abbrev pub PicksOn : Signatures → Step → (before after : Picking) → Type 0
PicksOn t step p q =
    (P : Source) (D : Parameters) (s : Stand) (rest : List Step)
    → ShowsStep P D t step
    → length s.stack ≡ p.height
    → (length (after P D step s).stack ≡ q.height)
    × (p.picks.items ++ picks_of (tied P D (step ∷ rest) s.next s.stack) p.choices.now
    ≡ q.picks.items
    ++ picks_of (tied P D rest (after P D step s).next (after P D step s).stack) q.choices.now)
