use Rattle.std.proofs.Common.{◌≡◌, ◌↔◌, ℕ, true, false, inl, refl, sym, subst}
use Rattle.mc_names.specs.Plain.{plain_name_arity}
use Rattle.mc_accepted.specs.InstRules.{ComesBack, ReachesOthers}
use Rattle.mc_names.specs.Linked.{plain_names}
use Rattle.mc_inst_table.specs.Rules.{inst_bodies, own_number}
use Rattle.mc_inst_table.specs.code.Others.{inst_arity}
use Rattle.mc_inst_table.proofs.Faulting.{founded_either}
use Rattle.mc_inst_table.proofs.faults.inst_is_unfounded.Goals as goal

pub returns-then-comes_back : goal.returns-then-comes_back
returns-then-comes_back c =
    let l = plain_names c.args.names.now in
    let back = (c.comes_back.ensures l c.requires.insts).0 c.if-comes_back.true in (
      λ h. inl (subst (λ (k : ℕ). ComesBack (inst_bodies l) k) c.own_number-number.ensures back),
      λ m. refl,
    )

pub returns : goal.returns
returns c =
    let l = plain_names c.args.names.now in
    let x = plain_name_arity c.args.id in
    founded_either l c.args.own x c.comes_back.result c.in_ok-holds.holds
    (subst (λ (k : ℕ). (c.comes_back.result ≡ true) ↔ ComesBack (inst_bodies l) k) c.own_number-number.ensures
    (c.comes_back.ensures l c.requires.insts))
    (subst (λ (k : ℕ). (c.in_ok-holds.holds ≡ true) ↔ ReachesOthers (inst_bodies l) (inst_arity l k) k) c.own_number-number.ensures
    (c.in_ok-holds.ensures l c.requires.given))
    c.if-comes_back.false
