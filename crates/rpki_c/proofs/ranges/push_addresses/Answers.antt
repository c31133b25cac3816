use Rattle.std.proofs.Common.{◌≡◌, ◌++◌, ◌∷◌, [], List, map, take, get_or, sym, ap, ◌∙◌, append_assoc}
use Rattle.rpki_c.specs.Writing.{ip_struct}
use Rattle.rpki_c.specs.declared.copying.RpkiIpRange.{RpkiIpRange}
use Rattle.rpki_c.proofs.OneMore.{map_more}
use Rattle.rpki_c.proofs.ranges.push_addresses.Goals as goal

pub loop-block-preserved : goal.loop-block-preserved
loop-block-preserved c =
    let l = c.loop-block in
    let xs = c.as_slice-blocks.result.now in
    let i = l.block-index in
    let it = c.block-item.result in
    let old = c.args.all.now.items in
    let one = ip_struct (get_or xs i it) ∷ [] in
    let pushed : c.push.new.self.items ≡ l.all.items ++ c.ip_range.result ∷ [] = c.in_ok-push.ensures.items in
    let read : it ≡ get_or xs i it = c.block-item.is in
    pushed
    ∙ ap (λ (r : RpkiIpRange). l.all.items ++ r ∷ []) (c.ip_range.ensures ∙ ap ip_struct read)
    ∙ ap (λ (s : List RpkiIpRange). s ++ one) l.invariant
    ∙ append_assoc old (map ip_struct (take i xs)) one
    ∙ ap (λ (s : List RpkiIpRange). old ++ s) (sym (map_more ip_struct xs i it c.loop-block-test.true))
