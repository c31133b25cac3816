use Rattle.rpki_parts.specs.Algorithms.{algorithm_format}
use Rattle.rpki_der.specs.BasicFormats.{serial_format, time_format}
use Rattle.rpki_cert.specs.Certificates.{version_format}
use Rattle.rpki_parts.specs.Keys.{public_key_format}
use Rattle.rpki_crl.specs.Lists.{version_2}
use Rattle.rpki_parts.specs.Names.{name_format}
use Rattle.rpki_der.specs.Skipping.{levels}
use Rattle.rpki_parts.specs.Validities.{validity_format}
use Rattle.rpki_der.proofs.FormatAnswers.{answers_alone}
use Rattle.rpki_cert.proofs.CertificateFormats.{version_alone}
use Rattle.rpki_crl.proofs.ListFormats.{version_alone as list_version_alone}
use Rattle.rpki_files.proofs.StopWalks.{read_itself, read_or_memory, read_surely}
use Rattle.rpki_files.proofs.places.take_field.Goals as goal

pub returns-in-Version : goal.returns-in-Version
returns-in-Version c =
    let v = c.version in
    let answers = answers_alone (λ x. x) version_format c.args.cursor.now v.result v.new.cursor version_alone
    v.ensures.octets v.ensures.reads v.ensures.keeps in
    rw c.in-Version.is (read_itself version_format c.args.cursor.now v.new.cursor v.result answers.encoded v.ensures.keeps)

pub returns-in-ListVersion : goal.returns-in-ListVersion
returns-in-ListVersion c =
    let v = c.list_version in
    let answers = answers_alone (λ x. x) version_2 c.args.cursor.now v.result v.new.cursor list_version_alone
    v.ensures.octets v.ensures.reads v.ensures.keeps in
    rw c.in-ListVersion.is (read_itself version_2 c.args.cursor.now v.new.cursor v.result answers.encoded v.ensures.keeps)

pub returns-in-Serial : goal.returns-in-Serial
returns-in-Serial c =
    let r = c.take_from in
    let w = c.without_value in
    rw c.in-Serial.is (read_surely (λ x. x) serial_format c.args.cursor.now r.new.cursor r.result w.result
    r.ensures.encoded r.ensures.keeps w.ensures)

pub returns-in-Algorithm : goal.returns-in-Algorithm
returns-in-Algorithm c =
    let r = c.x509_take_from in
    let w = c.without_value-in-Algorithm in
    rw c.in-Algorithm.is (read_surely (λ x. x) algorithm_format c.args.cursor.now r.new.cursor r.result w.result
    r.ensures.encoded r.ensures.keeps w.ensures)

pub returns-in-Issuer : goal.returns-in-Issuer
returns-in-Issuer c =
    let r = c.take_from-in-Issuer in
    let w = c.without_value-in-Issuer in
    rw c.in-Issuer.is (read_or_memory (λ x. x) (name_format levels) c.args.cursor.now r.new.cursor r.result w.result
    r.ensures.encoded r.ensures.keeps w.ensures)

pub returns-in-Validity : goal.returns-in-Validity
returns-in-Validity c =
    let r = c.take_from-in-Validity in
    let w = c.without_value-in-Validity in
    rw c.in-Validity.is (read_surely (λ x. x) validity_format c.args.cursor.now r.new.cursor r.result w.result
    r.ensures.encoded r.ensures.keeps w.ensures)

pub returns-in-Subject : goal.returns-in-Subject
returns-in-Subject c =
    let r = c.take_from-in-Subject in
    let w = c.without_value-in-Subject in
    rw c.in-Subject.is (read_or_memory (λ x. x) (name_format levels) c.args.cursor.now r.new.cursor r.result w.result
    r.ensures.encoded r.ensures.keeps w.ensures)

pub returns-in-Key : goal.returns-in-Key
returns-in-Key c =
    let r = c.take_from-in-Key in
    let w = c.without_value-in-Key in
    rw c.in-Key.is (read_or_memory (λ x. x) public_key_format c.args.cursor.now r.new.cursor r.result w.result
    r.ensures.encoded r.ensures.keeps w.ensures)

pub returns-in-ThisUpdate : goal.returns-in-ThisUpdate
returns-in-ThisUpdate c =
    let r = c.take_from-in-ThisUpdate in
    let w = c.without_value-in-ThisUpdate in
    rw c.in-ThisUpdate.is
    (read_surely (λ x. x) time_format c.args.cursor.now r.new.cursor r.result w.result r.ensures.encoded
    r.ensures.keeps w.ensures)

pub returns-in-NextUpdate : goal.returns-in-NextUpdate
returns-in-NextUpdate c =
    let r = c.take_from-in-NextUpdate in
    let w = c.without_value-in-NextUpdate in
    rw c.in-NextUpdate.is
    (read_surely (λ x. x) time_format c.args.cursor.now r.new.cursor r.result w.result r.ensures.encoded
    r.ensures.keeps w.ensures)

pub returns-in-SignatureAlgorithm : goal.returns-in-SignatureAlgorithm
returns-in-SignatureAlgorithm c =
    let r = c.x509_take_from-in-SignatureAlgorithm in
    let w = c.without_value-in-SignatureAlgorithm in
    rw c.in-SignatureAlgorithm.is
    (read_surely (λ x. x) algorithm_format c.args.cursor.now r.new.cursor r.result w.result r.ensures.encoded
    r.ensures.keeps w.ensures)
