-- Disjuncts by the labels with which they open a variable, and how one more is put in.
use Rattle.std.specs.Prelude.{◌≡◌, ℕ, zero, suc, List, [], ◌∷◌, ◌++◌, map, Option, Some, None, if◌then◌else◌}
use Rattle.mc_model.specs.Scheduled.{Label}
use Rattle.mc_accepted.specs.Switched.{label_in, same_label, is_label, and_label}
use Rattle.mc_switch.specs.declared.disjunct.Opened.{Opened}
use Rattle.mc_switch.specs.declared.groups.Group.{Group}
use Rattle.mc_switch.specs.declared.opening.OpeningLabel.{OpeningLabel}
use Rattle.mc_switch.specs.Openings.{plain_opening_label, plain_openings}

-- the label with which a disjunct opens a variable
abbrev pub label_of : ℕ → Opened → Option Label
label_of x o = label_in x (plain_openings o.opens)

-- the labels, each once, of what tells its label; those of one label
module _ {A : Type 0} (tell : A → Option Label) where
  abbrev pub labels_by : List A → List Label
  labels_by [] = []
  labels_by (a ∷ us) = and_label (tell a) (labels_by us)

  abbrev pub labelled : Label → List A → List A
  labelled l [] = []
  labelled l (a ∷ us) = if is_label l (tell a) then a ∷ labelled l us else labelled l us

  abbrev pub groups_by : List A → List (Label × List A)
  groups_by us = map (λ l. (l, labelled l us)) (labels_by us)

module _ {A : Type 0} where
  -- one more of a label: behind those that have it, or in a group of its own
  abbrev pub put_in : Label → A → List (Label × List A) → List (Label × List A)
  put_in l a [] = (l, a ∷ []) ∷ []
  put_in l a (g ∷ gs) =
      if same_label l g.0 then (g.0, g.1 ++ a ∷ []) ∷ gs else g ∷ put_in l a gs

  abbrev pub put_told : Option Label → A → List (Label × List A) → List (Label × List A)
  put_told None a gs = gs
  put_told (Some l) a gs = put_in l a gs

  -- one more in the group of a number
  abbrev pub put_at : ℕ → A → List (Label × List A) → List (Label × List A)
  put_at k a [] = []
  put_at zero a (g ∷ gs) = (g.0, g.1 ++ a ∷ []) ∷ gs
  put_at (suc k) a (g ∷ gs) = g ∷ put_at k a gs

-- what is kept of disjuncts, by the labels of a variable
abbrev pub groups_of : ℕ → List Opened → List (Label × List Opened)
groups_of x os = groups_by (label_of x) os

-- groups as they are kept
abbrev pub plain_group : Group → Label × List Opened
plain_group g = (plain_opening_label g.label, g.disjuncts.items)

abbrev pub plain_groups : List Group → List (Label × List Opened)
plain_groups gs = map plain_group gs

-- the labels of groups, in order
abbrev pub AreLabelled : List OpeningLabel → List Group → Type 0
AreLabelled ls gs =
    map plain_opening_label ls ≡ map (λ (g : Label × List Opened). g.0) (plain_groups gs)
