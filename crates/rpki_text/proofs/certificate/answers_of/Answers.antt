use Rattle.rpki_cert.specs.declared.inspect.Kind.TheVariants.{Anchor, Authority, EndEntity, Detached, Router}
use Rattle.rpki_text.proofs.KindAnswers.{answer_is}
use Rattle.rpki_text.proofs.certificate.answers_of.Goals as goal

pub returns : goal.returns
returns c = record {
  anchor = rw c.err.ensures.value (answer_is Anchor c.args.strict c.args.cert.now _ c.inspect_ta.ensures.ok c.inspect_ta.ensures.fault);
  authority = rw c.err-2.ensures.value
      (answer_is Authority c.args.strict c.args.cert.now _ c.inspect_ca.ensures.ok c.inspect_ca.ensures.fault);
  end_entity = rw c.err-3.ensures.value
      (answer_is EndEntity c.args.strict c.args.cert.now _ c.inspect_ee.ensures.ok c.inspect_ee.ensures.fault);
  detached = rw c.err-4.ensures.value
      (answer_is Detached c.args.strict c.args.cert.now _ c.inspect_detached_ee.ensures.ok
      c.inspect_detached_ee.ensures.fault);
  router = rw c.err-5.ensures.value
      (answer_is Router c.args.strict c.args.cert.now _ c.inspect_router.ensures.ok c.inspect_router.ensures.fault);
}
