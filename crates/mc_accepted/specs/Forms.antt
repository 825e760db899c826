-- Insts without numbers: as they arise, a node of the graph, one symbol over insts, or what one of
-- two allows. (Mercury Language Reference Manual: Modes, insts; this project's profile.)
use Rattle.std.specs.Prelude.{ℕ, List, [], ◌∷◌, map, replicate, Option, Some, None, Bool, true, false, if◌then◌else◌, not, nat_eq, ◌&&◌, ◌||◌}
use Rattle.std.specs.Cmp.Lexicographic.{pointwise}
use Rattle.mc_program.specs.Programs.{TypeTerm, FullName, Source}
use Rattle.mc_model.specs.Insts.{Listed, InstNode, free, bound, Graph}
use Rattle.mc_model.specs.Stream.{is_bound}
use Rattle.mc_accepted.specs.Determined.{is_dead}
use Rattle.mc_accepted.specs.Arranged.{Operations}

mutual
  pub data Form : Type 0 where
    at : (node : ℕ) → Form
    only : (symbol : ℕ) → Forms → Form
    either : Form → Form → Form

  pub data Forms : Type 0 where
    no_forms : Forms
    form_then : Form → Forms → Forms

abbrev pub is_bound_form : Form → Bool
is_bound_form (at i) = is_bound i
is_bound_form _ = true

abbrev pub forms : List Form → Forms
forms [] = no_forms
forms (i ∷ is) = form_then i (forms is)

abbrev pub listed_forms : Forms → List Form
listed_forms no_forms = []
listed_forms (form_then i is) = i ∷ listed_forms is

-- by name and number of arguments, wherever it was defined
abbrev pub same_name : FullName → (name : List ℕ) → (arity : ℕ) → Bool
same_name f name arity = pointwise nat_eq name f.bytes && nat_eq arity f.arity

module _ (P : Source) (G : Graph) where
  abbrev pub is_dead_form : Form → Bool
  is_dead_form (at i) = is_dead (G i)
  is_dead_form _ = false

  -- what one of two allows: `dead` where one is, and `free` of two that are free
  abbrev pub joined_form : Form → Form → Form
  joined_form i j =
      if not (is_bound_form i) || is_dead_form i then i
      else if is_dead_form j then j else either i j

  -- what one of several allows
  abbrev pub joined_forms : List Form → Option Form
  joined_forms [] = None
  joined_forms (i ∷ is) = Some (with_others i (joined_forms is))
    where
      with_others : Form → Option Form → Form
      with_others i None = i
      with_others i (Some j) = joined_form i j

  abbrev pub joined_each : List Form → List Form → List Form
  joined_each (i ∷ is) (j ∷ js) = joined_form i j ∷ joined_each is js
  joined_each _ _ = []

  abbrev pub listed_args : List Listed → FullName → Option (List Form)
  listed_args [] f = None
  listed_args (l ∷ ls) f =
      if same_name f l.name l.arity then Some (map at l.args) else listed_args ls f

  abbrev pub args_at : InstNode → ℕ → FullName → Option (List Form)
  args_at free i f = None
  args_at (bound ls) i f = listed_args ls f
  args_at _ i f = Some (replicate f.arity (at i))

  abbrev pub args_of_either : Option (List Form) → Option (List Form) → Option (List Form)
  args_of_either None o = o
  args_of_either (Some is) None = Some is
  args_of_either (Some is) (Some js) = Some (joined_each is js)

  -- the insts of a symbol's arguments, where the inst allows the symbol
  abbrev pub narrowed : Form → FullName → Option (List Form)
  narrowed (at i) f = args_at (G i) i f
  narrowed (only s is) f =
      if same_name f (P.symbols s).name.bytes (P.symbols s).name.arity then Some (listed_forms is)
      else None
  narrowed (either i j) f = args_of_either (narrowed i f) (narrowed j f)

  abbrev pub node_takes_constants : InstNode → Bool
  node_takes_constants free = false
  node_takes_constants (bound ls) = false
  node_takes_constants _ = true

  abbrev pub takes_constants : Form → Bool
  takes_constants (at i) = node_takes_constants (G i)
  takes_constants (only s is) = false
  takes_constants (either i j) = takes_constants i || takes_constants j

  -- Forms have no numbers, so none is kept where an inst changes.
  abbrev pub of_forms : (fits : Form → (node : ℕ) → TypeTerm → Bool) → Operations Form
  of_forms fits =
      record {
        node = at;
        is_bound = is_bound_form;
        is_dead = is_dead_form;
        over = λ s is. Some (only s (forms is));
        joined = λ t is. joined_forms is;
        narrowed = λ i s. narrowed i (P.symbols s).name;
        takes_constants = takes_constants;
        fits = fits;
        changed = λ i j. None;
      }
