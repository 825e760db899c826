use Rattle.std.proofs.Common.{◌≡◌, [], ◌∷◌, ◌++◌, cond, refl, ap, ◌∙◌}
use Rattle.std.specs.Str.{bytes_eq}
use Rattle.mc_names.specs.code.Index.{listed}
use Rattle.mc_names.proofs.Listed.{entries_of, listed-insert, listed_again, vec_list}
use Rattle.mc_names.proofs.index.Index.put.Goals as goal

pub returns : goal.returns
returns g c = λ w.
    let old = c.self.inside.named.entries in
    let name = c.args.name.now in
    let before = listed (entries_of vec_list vec_list old) w in
    let group : c.push.new.self.items ≡ listed c.args.self.now name ++ c.args.item ∷ [] =
    (c.in_ok-push.ensures {u = tt}).items ∙ ap (λ cs. cs ++ c.args.item ∷ []) ((c.in_ok-group.ensures {u = tt}).items ∙ c.get.ensures) in
    ap (λ es. listed (entries_of vec_list vec_list es) w) (c.in_ok-insert.ensures {u = tt}).entries
    ∙ listed-insert vec_list vec_list _ (λ x y. refl) old c.in_ok-from_slice.field-0 c.push.new.self w
    ∙ ap (λ n. cond (bytes_eq w n) c.push.new.self.items before) (c.in_ok-from_slice.ensures {u = tt}).items
    ∙ ap (λ cs. cond (bytes_eq w name) cs before) group
    ∙ ap (λ s. cond (bytes_eq w name) (listed c.args.self.now name ++ c.args.item ∷ []) (listed s w)) c.self.view_is
    ∙ listed_again c.args.self.now w name c.args.item
