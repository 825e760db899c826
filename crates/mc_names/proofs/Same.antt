-- Whether two names are one is whether what they stand for is.
use Rattle.std.proofs.Common.{◌≡◌, Bool, ◌&&◌, nat_eq, refl, ap, sym, ◌∙◌}
use Rattle.std.proofs.Math.Bool.{and_comm}
use Rattle.std.specs.Str.{bytes_eq}
use Rattle.mc_names.specs.contracts.definition.NameArityPartialEq.TheImpl as NameArityEq
use Rattle.mc_names.specs.contracts.definition.KindPartialEq.TheImpl as KindEq
use Rattle.mc_names.specs.contracts.definition.DefinitionPartialEq.TheImpl as DefinitionEq
use Rattle.mc_names.specs.declared.definition.Kind.{Kind}
use Rattle.mc_names.specs.declared.definition.Kind.TheVariants as K
use Rattle.mc_names.specs.Plain.{PlainDefinition, is_kind, is_name_arity, is_definition, plain_name_arity, plain_definition, PlainNameArity}
use Rattle.std.specs.Cmp.{IsEquivalence}
use Rattle.std.specs.Cmp.Lexicographic.{nat_list_eq_equiv}
use Rattle.std.proofs.lemmas.Cmp.{nat_eq_equiv, on_equiv, and_equiv}
use Rattle.mc_names.specs.contracts.definition.KindEq.TheImpl.Laws as KindLaws

-- whether a test of two values is that of what they stand for
abbrev pub IsSame : {K P : Type 0} → (K → P) → (K → K → Bool) → (P → P → Bool) → Type 0
IsSame {K = K} view eq is = (x y : K) → eq x y ≡ is (view x) (view y)

pub same_kind : (k j : Kind) → KindEq.eq-value.it k j ≡ is_kind k j
same_kind K.AbstractType K.AbstractType = refl
same_kind K.AbstractType _ = refl
same_kind K.DefinedType K.DefinedType = refl
same_kind K.DefinedType _ = refl
same_kind K.Inst K.Inst = refl
same_kind K.Inst _ = refl
same_kind K.Mode K.Mode = refl
same_kind K.Mode _ = refl
same_kind K.Pred K.Pred = refl
same_kind K.Pred _ = refl
same_kind K.Func K.Func = refl
same_kind K.Func _ = refl
same_kind K.Symbol K.Symbol = refl
same_kind K.Symbol _ = refl

pub same_id : IsSame plain_name_arity NameArityEq.eq-value.it is_name_arity
same_id x y = and_comm (bytes_eq x.name.now y.name.now) (nat_eq x.arity y.arity)

pub same_definition : IsSame plain_definition DefinitionEq.eq-value.it is_definition
same_definition t u = rw (same_kind t.kind u.kind) (ap (λ b. is_kind t.kind u.kind && b) (same_id t.id u.id))

by_values : {A : Type 0} (E F : A → A → Bool) → ((x y : A) → E x y ≡ F x y) → IsEquivalence E → IsEquivalence F
by_values E F e laws = record {
  refl = λ x. sym (e x x) ∙ laws.refl x;
  symm = λ x y. sym (e x y) ∙ laws.symm x y ∙ e y x;
  congr = λ x y z h. sym (e x z) ∙ laws.congr x y z (e x y ∙ h) ∙ e y z;
}

is_kind_equiv : IsEquivalence is_kind
is_kind_equiv = by_values _ is_kind same_kind KindLaws.laws-law

is_id_equiv : IsEquivalence is_name_arity
is_id_equiv = and_equiv (on_equiv (λ (x : PlainNameArity). x.arity) nat_eq_equiv) (on_equiv (λ (x : PlainNameArity). x.name) nat_list_eq_equiv)

pub is_definition_equiv : IsEquivalence is_definition
is_definition_equiv = and_equiv (on_equiv (λ (t : PlainDefinition). t.kind) is_kind_equiv) (on_equiv (λ (t : PlainDefinition). t.id) is_id_equiv)
