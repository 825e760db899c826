-- What insts come to before any constructor, as it is found out: where the bodies of definitions lead.
use Rattle.std.specs.Prelude.{◌≡◌, ◌≤◌, ℕ, zero, suc, max, List, [], ◌∷◌, map, slice_get, slice_index_or, Option, Some, None}
use Rattle.mc_accepted.specs.InstRules.{Functor, InstTerm, parameter, inst_node, defined, bound_over, InstTerms, no_insts, inst_then, over, Bodies, ComesTo}
use Rattle.mc_inst_table.specs.declared.inst.Inst.{Inst}
use Rattle.mc_inst_table.specs.declared.heads.Head.{Head}
use Rattle.mc_inst_table.specs.declared.heads.Head.TheVariants as H
use Rattle.mc_inst_table.specs.Plain.{plain_inst}
use Rattle.mc_inst_table.specs.Rules.{body_or_none}

-- how many insts these are
abbrev pub how_many : InstTerms → ℕ
how_many no_insts = 0
how_many (inst_then i is) = suc (how_many is)

-- how many parameters a definition has at least, by those in its body
abbrev mutual
  pub needs : InstTerm → ℕ
  needs (parameter k) = suc k
  needs (inst_node i) = 0
  needs (defined d is) = all_need is
  needs (bound_over fs is) = all_need is

  pub all_need : InstTerms → ℕ
  all_need no_insts = 0
  all_need (inst_then i is) = max (needs i) (all_need is)

-- Each definition in an inst stands over as many insts as its body needs.
abbrev mutual
  pub IsFull : Bodies → InstTerm → Type 0
  IsFull body (parameter k) = Unit {0}
  IsFull body (inst_node i) = Unit {0}
  IsFull body (defined d is) = (needs (body d) ≤ how_many is) × AreFull body is
  IsFull body (bound_over fs is) = AreFull body is

  pub AreFull : Bodies → InstTerms → Type 0
  AreFull body no_insts = Unit {0}
  AreFull body (inst_then i is) = IsFull body i × AreFull body is

-- the end of an inst at a place among some, by their ends
abbrev pub end_at : List Head → ℕ → Head
end_at [] k = H.Parameter k
end_at (h ∷ hs) zero = h
end_at (h ∷ hs) (suc k) = end_at hs k

-- the end of a definition over insts, by where its body leads and their ends
abbrev pub end_over : Head → List Head → Head
end_over (H.Parameter k) hs = end_at hs k
end_over (H.Node i) hs = H.Node i
end_over H.Bound hs = H.Bound
end_over H.Unknown hs = H.Unknown

abbrev mutual
  pub end_of : (heads : ℕ → Head) → InstTerm → Head
  end_of heads (parameter k) = H.Parameter k
  end_of heads (inst_node i) = H.Node i
  end_of heads (defined d is) = end_over (heads d) (ends heads is)
  end_of heads (bound_over fs is) = H.Bound

  pub ends : (heads : ℕ → Head) → InstTerms → List Head
  ends heads no_insts = []
  ends heads (inst_then i is) = end_of heads i ∷ ends heads is

-- An inst comes to what is said of it; nothing is said of what isn't known.
abbrev pub Ends : Bodies → InstTerm → Head → Type 0
Ends body t (H.Parameter k) = ComesTo body t (parameter k)
Ends body t (H.Node i) = ComesTo body t (inst_node i)
Ends body t H.Bound = (fs : List Functor) × (is : InstTerms) × ComesTo body t (bound_over fs is)
Ends body t H.Unknown = Unit {0}

-- where the body of a definition leads; there is nothing in that of one past the last
abbrev pub head_at : List Head → ℕ → Head
head_at heads d = slice_index_or heads d H.Bound

-- What is known of the bodies is so,
abbrev pub AreHeads : Bodies → List Head → Type 0
AreHeads body heads = (d : ℕ) → Ends body (body d) (head_at heads d)

-- and no more can be found out of them.
abbrev pub AreSettled : Bodies → List Head → Type 0
AreSettled body heads =
    (d : ℕ) → head_at heads d ≡ H.Unknown → end_of (head_at heads) (body d) ≡ H.Unknown

-- what an inst is after the bodies of so many definitions were put in
abbrev pub after : Bodies → ℕ → InstTerm → Option InstTerm
after body zero t = Some t
after body (suc n) (parameter k) = None
after body (suc n) (inst_node i) = None
after body (suc n) (defined d is) = after body n (over is (body d))
after body (suc n) (bound_over fs is) = None

-- a definition over insts
abbrev pub IsName : InstTerm → Type 0
IsName (parameter k) = ⊥
IsName (inst_node i) = ⊥
IsName (defined d is) = Unit {0}
IsName (bound_over fs is) = ⊥

-- an inst is at an end of this sort
abbrev pub IsHead : InstTerm → Head → Type 0
IsHead t (H.Parameter k) = t ≡ parameter k
IsHead t (H.Node i) = t ≡ inst_node i
IsHead t H.Bound = (fs : List Functor) × (is : InstTerms) × (t ≡ bound_over fs is)
IsHead t H.Unknown = ⊥

-- the bodies of definitions as they are kept
abbrev pub bodies_of : List Inst → Bodies
bodies_of is d = body_or_none (slice_get (map plain_inst is) d)

-- how many parameters each definition needs; one past the last needs none
abbrev pub AreNeeds : Bodies → List ℕ → Type 0
AreNeeds body ns = (d : ℕ) → needs (body d) ≡ slice_index_or ns d 0
