-- Code whose mentions a program has names what the program has.
use Rattle.std.proofs.Common.{◌≡◌, refl, inl, inr, ℕ, zero, suc, ◌<◌, List, [], ◌∷◌, length, map, get_or, slice_get, Some, arith}
use Rattle.mc_program.specs.Values.{Val, plain_value}
use Rattle.mc_program.specs.declared.value.Value.{Value}
use Rattle.mc_program.specs.declared.program.Program.{Program}
use Rattle.mc_model.specs.Worlds.{library_of}
use Rattle.mc_plain.specs.Values.{IsConstant, IsProper}
use Rattle.mc_flat_code.specs.Running.{instr_at, value_at}
use Rattle.mc_flat_code.specs.Mentions.{Mention, of_symbol, of_constant, of_builtin, CodeMentions}
use Rattle.mc_flat_code.specs.declared.code.Instr.{Instr}
use Rattle.mc_flat_code.specs.declared.code.Instr.TheVariants as I
use Rattle.mc_flat_code.specs.declared.code.Code.{Code}
use Rattle.mc_plain.specs.Names.{IsNamed, NamesAll}
use Rattle.mc_plain.specs.Mentioned.{Has}

slice_at : {A : Type 0} (xs : List A) (k : ℕ) (d : A) → k < length xs → slice_get xs k ≡ Some (get_or xs k d)
slice_at [] k d h = absurd (omega (arith, h))
slice_at (x ∷ xs) zero d h = refl
slice_at (x ∷ xs) (suc k) d h = slice_at xs k d (omega arith)

plain_at : (xs : List Value) (k : ℕ) (d : Value) → k < length xs → slice_get (map plain_value xs) k ≡ Some (plain_value (get_or xs k d))
plain_at [] k d h = absurd (omega (arith, h))
plain_at (x ∷ xs) zero d h = refl
plain_at (x ∷ xs) (suc k) d h = plain_at xs k d (omega arith)

module _ (P : Program) (code : Code) (has : (m : Mention) → CodeMentions code m → Has P m) where
  goal_named : (pc : ℕ) (i : Instr) → instr_at code pc ≡ Some i → IsNamed (length P.symbols) (library_of P) i
  goal_named pc I.Done e = tt
  goal_named pc I.Fail e = tt
  goal_named pc (I.Same x y next) e = tt
  goal_named pc (I.Made x f ys next) e = has (of_symbol f) (inl (pc, (I.Made x f ys next, (e, refl))))
  goal_named pc (I.Constant x k next) e = tt
  goal_named pc (I.Or l r) e = tt
  goal_named pc (I.If c t f) e = tt
  goal_named pc (I.Not g next) e = tt
  goal_named pc (I.Once g next) e = tt
  goal_named pc (I.Call p xs last next) e = tt
  goal_named pc (I.Apply op xs ys next) e =
      has (of_builtin op) (inl (pc, (I.Apply op xs ys next, (e, refl))))
  goal_named pc (I.Case x bs other) e = tt

  constant_named : (k : ℕ) (v : Val) → value_at code k ≡ Some v → IsConstant v × IsProper v
  constant_named k v e = has (of_constant v) (inr (k, (v, (e, refl))))

  value_named : (k : ℕ) (d : Value) → k < length code.values.items → IsConstant (plain_value (get_or code.values.items k d)) × IsProper (plain_value (get_or code.values.items k d))
  value_named k d h =
      constant_named k (plain_value (get_or code.values.items k d)) (plain_at code.values.items k d h)

  pub code_named : NamesAll P code
  code_named =
      record {
        symbols = λ k d h. goal_named k (get_or code.instrs.items k d) (slice_at code.instrs.items k d h);
        constants = λ k d h. (value_named k d h).0;
        proper = λ k d h. (value_named k d h).1;
      }
