-- Insts as numbers into a table of keys: a key names an inst over insts that come before it. The
-- builtin insts come first.
use Rattle.std.specs.Prelude.{◌≡◌, ℕ, suc, ◌<◌, List, [], ◌∷◌, ◌++◌, length, get_or, map}
use Rattle.mc_accepted.specs.InstRules.{Functor, InstTerm, inst_node, defined, bound_over, InstTerms, over}
use Rattle.mc_inst_table.specs.Plain.{inst_terms}
use Rattle.mc_signatures.specs.declared.keys.ListedFunctor.{ListedFunctor}
use Rattle.mc_signatures.specs.declared.keys.InstKey.{InstKey}
use Rattle.mc_signatures.specs.declared.keys.InstKey.TheVariants as K

abbrev pub builtins : List InstTerm
builtins = inst_node 0 ∷ inst_node 1 ∷ inst_node 2 ∷ inst_node 3 ∷ []

-- the inst of a number
abbrev pub term_at : List InstTerm → ℕ → InstTerm
term_at ts k = get_or ts k (inst_node 0)

-- the insts of these numbers
abbrev pub terms_at : List InstTerm → List ℕ → InstTerms
terms_at ts ks = inst_terms (map (term_at ts) ks)

abbrev pub functor_of : ListedFunctor → Functor
functor_of f = record { name = f.name.items; arity = f.arity }

-- the inst of a key, over the insts that are there
abbrev pub term_of : List InstTerm → InstKey → InstTerm
term_of ts (K.Defined d args) = defined d (terms_at ts args.items)
term_of ts (K.Listed fs args) = bound_over (map functor_of fs.items) (terms_at ts args.items)

-- the insts that are there, and those of these keys behind them
abbrev pub terms_from : List InstTerm → List InstKey → List InstTerm
terms_from ts [] = ts
terms_from ts (k ∷ ks) = terms_from (ts ++ term_of ts k ∷ []) ks

-- the builtin insts, and those of the keys
abbrev pub terms : List InstKey → List InstTerm
terms ks = terms_from builtins ks

-- the numbers are below a bound
abbrev pub AllBelow : ℕ → List ℕ → Type 0
AllBelow n ks = (k : ℕ) → k < length ks → get_or ks k 0 < n

-- the arguments of a key come before it
abbrev pub KeyFits : ℕ → InstKey → Type 0
KeyFits n (K.Defined d args) = AllBelow n args.items
KeyFits n (K.Listed fs args) = AllBelow n args.items

abbrev pub KeysFit : ℕ → List InstKey → Type 0
KeysFit n [] = Unit {0}
KeysFit n (k ∷ ks) = KeyFits n k × KeysFit (suc n) ks

-- the number is that of the inst
pub record IsInst (ts : List InstTerm) (k : ℕ) (i : InstTerm) : Type 0 where
  pub there : k < length ts
  pub is : term_at ts k ≡ i

-- the numbers are those of the insts
pub record AreInsts (ts : List InstTerm) (ks : List ℕ) (is : List InstTerm) : Type 0 where
  pub there : AllBelow (length ts) ks
  pub are : map (term_at ts) ks ≡ is

-- an inst with the insts of these numbers for its parameters
abbrev pub with_insts : List InstTerm → List ℕ → InstTerm → InstTerm
with_insts ts ks i = over (terms_at ts ks) i
