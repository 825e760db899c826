-- Items as plain data, without rows and boxes (the Mercury manual: Items; Declarations).
use Rattle.std.specs.Prelude.{ℕ, List, map, Option}
use Rattle.mc_term_data.specs.Plain.{PlainTerm, PlainTerms, term_list, plain_term}
use Rattle.mc_source.specs.declared.det.Det.{Det}
use Rattle.mc_decl_syntax.specs.declared.item.Decl.{Decl}
use Rattle.mc_decl_syntax.specs.declared.item.Decl.TheVariants as D

-- a name, by its parts
abbrev pub Path : Type 0
Path = List (List ℕ)

-- an item; each field as in `Decl`
pub data PlainDecl : Type 0 where
  ModuleStart : (name : Path) → PlainDecl
  ModuleEnd : (name : Path) → PlainDecl
  Interface : PlainDecl
  Implementation : PlainDecl
  Imports : (names : List Path) → PlainDecl
  UseOnly : (names : List Path) → PlainDecl
  AbstractType : (head : PlainTerm) → PlainDecl
  UnionType : (head : PlainTerm) → (constructors : PlainTerms) → PlainDecl
  SameType : (head body : PlainTerm) → PlainDecl
  SameInst : (head body : PlainTerm) → PlainDecl
  BoundInst : (head : PlainTerm) → (symbols : PlainTerms) → PlainDecl
  ModeDef : (head body : PlainTerm) → PlainDecl
  Pred : (signature : PlainTerm) → Option Det → PlainDecl
  Func : (signature : PlainTerm) → Option Det → PlainDecl
  Mode : (signature : PlainTerm) → Option Det → PlainDecl
  Pragma : PlainDecl
  Clause : (clause : PlainTerm) → PlainDecl

-- the item that a value stands for
abbrev pub plain_item : Decl → PlainDecl
plain_item (D.ModuleStart w) = ModuleStart w
plain_item (D.ModuleEnd w) = ModuleEnd w
plain_item D.Interface = Interface
plain_item D.Implementation = Implementation
plain_item (D.Imports ws) = Imports ws
plain_item (D.UseOnly ws) = UseOnly ws
plain_item (D.AbstractType h) = AbstractType (plain_term h)
plain_item (D.UnionType h ts) = UnionType (plain_term h) (term_list (map plain_term ts.value))
plain_item (D.SameType h t) = SameType (plain_term h) (plain_term t.value)
plain_item (D.SameInst h t) = SameInst (plain_term h) (plain_term t.value)
plain_item (D.BoundInst h ts) = BoundInst (plain_term h) (term_list (map plain_term ts.value))
plain_item (D.ModeDef h t) = ModeDef (plain_term h) (plain_term t.value)
plain_item (D.Pred t d) = Pred (plain_term t) d
plain_item (D.Func t d) = Func (plain_term t) d
plain_item (D.Mode t d) = Mode (plain_term t) d
plain_item D.Pragma = Pragma
plain_item (D.Clause t) = Clause (plain_term t)
