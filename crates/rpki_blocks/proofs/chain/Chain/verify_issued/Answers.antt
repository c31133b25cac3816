use Rattle.std.proofs.Common.{ap, sym, ◌∙◌}
use Rattle.rpki_blocks.specs.Resources.Views.{resources_of}
use Rattle.rpki_blocks.proofs.IssuedResults.{gets_none, gets_all, gets_listed, is_refused, gets_both}
use Rattle.rpki_blocks.proofs.chain.Chain.verify_issued.Goals as goal

pub returns-in-Missing : goal.returns-in-Missing
returns-in-Missing g c =
    let listed = sym c.listed.view_is ∙ ap resources_of c.in-Missing.is in
    let answer = gets_none g.B.Bound.greatest c.args.self.now c.args.mode c.empty.result c.empty.ensures
    (record { chain = tt; small = tt }) in
    rw listed (record { issued = answer.issued; set = answer.set; held = answer.held_is; overclaimed = answer.overclaimed })

pub returns-in_ok-try_clone-in-Inherit : goal.returns-in_ok-try_clone-in-Inherit
returns-in_ok-try_clone-in-Inherit g c =
    let listed = sym c.listed.view_is ∙ ap resources_of c.in-Inherit.is in
    let answer = gets_all g.B.Bound.greatest c.args.self.now c.args.mode _ c.in_ok-try_clone-in-Inherit.ensures.same
    c.in_ok-try_clone-in-Inherit.ensures.set in
    rw listed (record { issued = answer.issued; set = answer.set; held = answer.held_is; overclaimed = answer.overclaimed })

pub returns-in_ok-try_clone-in-Refuse : goal.returns-in_ok-try_clone-in-Refuse
returns-in_ok-try_clone-in-Refuse g c =
    let listed = sym c.listed.view_is ∙ ap resources_of c.in-Blocks.is in
    let inside = c.is_encompassed.ensures.inside.0 c.if-is_encompassed.true in
    let answer = gets_listed g.B.Bound.greatest c.args.self.now _ _ c.args.mode inside
    c.in_ok-try_clone-in-Refuse.ensures.same c.in_ok-try_clone-in-Refuse.ensures.set in
    rw listed (record { issued = answer.issued; set = answer.set; held = answer.held_is; overclaimed = answer.overclaimed })

pub returns-else-is_encompassed : goal.returns-else-is_encompassed
returns-else-is_encompassed g c =
    let listed = sym c.listed.view_is ∙ ap resources_of c.in-Blocks.is in
    let answer = is_refused g.B.Bound.greatest c.args.self.now _ (c.is_encompassed.ensures.outside.0 c.if-is_encompassed.false) in
    rw (listed, c.in-Refuse.is)
    (record {
      issued = answer.issued;
      set = answer.set;
      held = answer.held_is;
      overclaimed =
          answer.overclaimed;
    })

pub returns-in_ok-intersection-in-Trim : goal.returns-in_ok-intersection-in-Trim
returns-in_ok-intersection-in-Trim g c =
    let listed = sym c.listed.view_is ∙ ap resources_of c.in-Blocks.is in
    let done = c.in_ok-intersection-in-Trim.ensures in
    let answer = gets_both g.B.Bound.greatest c.args.self.now _ _ done.both done.set in
    rw (listed, c.in-Trim.is) (record { issued = answer.issued; set = answer.set; held = answer.held_is; overclaimed = answer.overclaimed })
