use Rattle.std.proofs.Common.{map}
use Rattle.rpki_verdicts.proofs.FiledFiles.{added_certificate, added_list, filed_neither}
use Rattle.rpki_verdicts.proofs.unordered.add_file.Goals as goal

pub keep_cert-requires : goal.keep_cert-requires
keep_cert-requires c = let is = rw c.in-Certificate.is at c.front.ensures in is.0

pub returns-in-Certificate : goal.returns-in-Certificate
returns-in-Certificate c = λ files so_far.
    let is = rw c.in-Certificate.is at c.front.ensures in
    added_certificate files (map (λ f. f.now) c.args.certs.now.items) c.args.folder.now so_far c.args.file.now
    c.keep_cert.new.folder c.keep_cert.result (map (λ f. f.now) c.keep_cert.new.certs.items)
    c.keep_cert.ensures.certs c.keep_cert.ensures.folder (is.0.0, is.0.1) is.1

pub keep_list_of-requires : goal.keep_list_of-requires
keep_list_of-requires c = let is = rw c.in-List.is at c.front.ensures in is.0

pub returns-in-List : goal.returns-in-List
returns-in-List c = λ files so_far.
    let is = rw c.in-List.is at c.front.ensures in
    added_list files (map (λ f. f.now) c.args.certs.now.items) c.args.folder.now so_far c.args.file.now
    c.keep_list_of.new.folder c.keep_list_of.result (λ begins. is.1 begins) c.keep_list_of.ensures

pub returns-in-Neither : goal.returns-in-Neither
returns-in-Neither c = λ files so_far.
    let is = rw c.in-Neither.is at c.front.ensures in
    filed_neither files (map (λ f. f.now) c.args.certs.now.items) c.args.folder.now so_far c.args.file.now is.0 is.1
