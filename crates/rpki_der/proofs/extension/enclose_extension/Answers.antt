use Rattle.std.proofs.Common.{◌≡◌, length, drop, refl, arith, append_assoc, length-drop}
use Rattle.std.proofs.lemmas.Grind.{common_steps}
use Rattle.std.proofs.lemmas.List.{take_rest}
use Rattle.rpki_der.specs.Extensions.{extension_content, extension_format}
use Rattle.rpki_der.proofs.Appending.{contents_shorter, fronted}
use Rattle.rpki_der.proofs.extension.enclose_extension.Goals as goal

pub overflow_cast-end : goal.overflow_cast-end
overflow_cast-end c =
    let content = drop c.args.start c.args.out.now.items in
    let len : c.in-Some.len ≡ length (extension_content c.args.id.now c.flag_octets-flag.result.now content) =
    rw (c.deref.ensures.value, take_rest) at c.in-Some.ensures in
    omega (arith, contents_shorter c.args.id.now c.flag_octets-flag.result.now content, length-drop c.args.start c.args.out.now.items)

pub append_front-requires : goal.append_front-requires
append_front-requires c =
    let content = drop c.args.start c.args.out.now.items in
    let len : c.in-Some.len ≡ length (extension_content c.args.id.now c.flag_octets-flag.result.now content) =
    rw (c.deref.ensures.value, take_rest) at c.in-Some.ensures in
    omega (arith, contents_shorter c.args.id.now c.flag_octets-flag.result.now content)

pub returns-clause-ok : goal.returns-clause-ok
unfolding extension_format
returns-clause-ok c =
    let content = drop c.args.start c.args.out.now.items in
    let len : c.in-Some.len ≡ length (extension_content c.args.id.now c.flag_octets-flag.result.now content) =
    rw (c.deref.ensures.value, take_rest) at c.in-Some.ensures in
    let whole = fronted c.args.id.now c.flag_octets-flag.result.now content c.in-Some.len _ len refl in
    grind (arith, common_steps, append_assoc, whole)
