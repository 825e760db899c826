-- The definitions that stand in an inst, at any depth, each with what is given for its parameters.
use Rattle.std.specs.Prelude.{◌≡◌, ◌≢◌, ◌<◌, ◌⊎◌, ℕ, suc, List, [], ◌∷◌, ◌++◌, Option, Some, None}
use Rattle.mc_accepted.specs.InstRules.{InstTerm, parameter, inst_node, defined, bound_over, InstTerms, no_insts, inst_then, inst_at, Bodies, Mentions, Reaches, parameters_from}
use Rattle.mc_inst_table.specs.declared.links.Link.{Link}
use Rattle.mc_inst_table.specs.code.Ends.{how_many}

-- the parameter that an inst is
abbrev pub parameter_of : InstTerm → Option ℕ
parameter_of (parameter k) = Some k
parameter_of (inst_node i) = None
parameter_of (defined d is) = None
parameter_of (bound_over fs is) = None

abbrev pub given_of : InstTerms → List (Option ℕ)
given_of no_insts = []
given_of (inst_then i is) = parameter_of i ∷ given_of is

abbrev mutual
  pub links : InstTerm → List Link
  links (parameter k) = []
  links (inst_node i) = []
  links (defined d is) = record { to = d; given = given_of is } ∷ all_links is
  links (bound_over fs is) = all_links is

  pub all_links : InstTerms → List Link
  all_links no_insts = []
  all_links (inst_then i is) = links i ++ all_links is

abbrev pub LinkIn : Link → List Link → Type 0
LinkIn l [] = ⊥
LinkIn l (k ∷ ks) = (l ≡ k) ⊎ LinkIn l ks

-- One definition is another or reaches it.
abbrev pub IsOrReaches : Bodies → (from to : ℕ) → Type 0
IsOrReaches body d e = (d ≡ e) ⊎ ((ts : InstTerms) × Reaches body d e ts)

-- A definition's parameter is given for a parameter of another that reaches it.
pub record Passes (body : Bodies) (d j e p : ℕ) : Type 0 where
  pub given : InstTerms
  pub mentioned : Mentions (body d) e given
  pub back : IsOrReaches body e d
  pub within : p < how_many given
  pub is_given : inst_at given p ≡ parameter j
