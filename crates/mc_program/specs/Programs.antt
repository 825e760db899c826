-- Types, terms, goals, clauses and programs as plain data, without rows and boxes. (Mercury
-- Language Reference Manual: Syntax; Types.)
use Rattle.std.specs.Prelude.{ℕ, List, [], ◌∷◌, Option}
use Rattle.mc_program.specs.Values.{Val}
use Rattle.mc_program.specs.declared.builtin.Builtin.{Builtin}

mutual
  -- a type; a variable is the type variable of that number, a union its number over its arguments
  pub data TypeTerm : Type 0 where
    int_type : TypeTerm
    char_type : TypeTerm
    string_type : TypeTerm
    state_type : TypeTerm
    variable_type : (v : ℕ) → TypeTerm
    union_type : (u : ℕ) → (args : TypeTerms) → TypeTerm

  pub data TypeTerms : Type 0 where
    no_types : TypeTerms
    type_then : TypeTerm → TypeTerms → TypeTerms

mutual
  -- a term: a variable, a constant, a constructor over terms, or a function's application to terms
  pub data Expression : Type 0 where
    variable : (v : ℕ) → Expression
    constant : Val → Expression
    made : (symbol : ℕ) → (args : Expressions) → Expression
    applied : (function : ℕ) → (args : Expressions) → Expression

  pub data Expressions : Type 0 where
    no_expressions : Expressions
    expression_then : Expression → Expressions → Expressions

mutual
  -- a goal of a clause; `true` is the conjunction of no goals, and `fail` the disjunction of none
  pub data Formula : Type 0 where
    Equal : Expression → Expression → Formula
    Call : (pred : ℕ) → (args : Expressions) → Formula
    And : Formulas → Formula
    Or : Formulas → Formula
    If : (vars : List ℕ) → (condition then else : Formula) → Formula
    Not : Formula → Formula
    Exists : (vars : List ℕ) → Formula → Formula

  pub data Formulas : Type 0 where
    no_formulas : Formulas
    formula_then : Formula → Formulas → Formulas

-- the terms of a list
abbrev pub expressions : List Expression → Expressions
expressions [] = no_expressions
expressions (t ∷ ts) = expression_then t (expressions ts)

-- a name with its module and the number of its arguments
pub record FullName : Type 0 where
  pub module_name : List ℕ
  pub bytes : List ℕ
  pub arity : ℕ

-- a constructor: the union type that it belongs to, and its arguments' types over that type's
-- parameters
pub record Constructor : Type 0 where
  pub name : FullName
  pub of_type : ℕ
  pub args : List TypeTerm

-- a clause: the head's arguments and the body
pub record ClauseForm : Type 0 where
  pub head : List Expression
  pub body : Formula

-- a predicate, or a function, whose last type is its result's: its arguments' types, and its
-- clauses or its builtin
pub record Predicate : Type 0 where
  pub name : FullName
  pub types : List TypeTerm
  pub clauses : List ClauseForm
  pub builtin : Option Builtin

-- a program: its constructors, those of each union type in order, and its predicates, each named by
-- its number
pub record Source : Type 0 where
  pub symbols : ℕ → Constructor
  pub symbols_of : ℕ → List ℕ
  pub preds : ℕ → Predicate
