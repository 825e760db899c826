use Rattle.std.proofs.Common.{◌≡◌, [], sym, ap, ◌∙◌}
use Rattle.mc_decl_syntax.specs.Entries.{plain_files}
use Rattle.mc_compile.specs.Reading.{plain_goal}
use Rattle.mc_compile.specs.Linking.{rules_in}
use Rattle.mc_compile.proofs.Lists.{none_counted}
use Rattle.mc_compile.proofs.linking.names.Goals as goal

pub returns-then-is_empty-clause-sound : goal.returns-then-is_empty-clause-sound
returns-then-is_empty-clause-sound c =
    let broken = c.in_ok-broken.broken in
    let none : broken.items ≡ [] = none_counted broken.items broken.len broken.ok.0 c.if-is_empty.ensures in
    let same = sym (c.in_ok-linking.ensures {u = tt} ∙ c.as_slice.ensures.items) in
    ap (λ fs. rules_in (plain_files fs) c.args.number (plain_goal c.args.goal.now)) same ∙ sym (c.in_ok-broken.ensures {u = tt}) ∙ none
