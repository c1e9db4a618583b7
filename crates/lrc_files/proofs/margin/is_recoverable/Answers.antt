use Rattle.std.proofs.Common.{sym}
use Rattle.std.proofs.lemmas.Bool.{leb-true, le-leb}
use Rattle.lrc_code.specs.Code.{is_lost}
use Rattle.lrc_code.proofs.Stripes.{open_same}
use Rattle.lrc_files.proofs.margin.is_recoverable.Goals as goal

pub returns : goal.returns
returns c =
    let code = c.args.code in
    let bits = is_lost c.args.lost in
    let set = is_lost c.of_bits.result in
    let exact = c.excess_in.ensures.unique in (
      λ few f below opened. exact.0 (leb-true c.excess_in.result 2 few) f below (open_same code bits set f (λ i _. sym (c.of_bits.ensures i)) opened),
      λ all. le-leb c.excess_in.result 2 (exact.1 (λ f below opened. all f below (open_same code set bits f (λ i _. c.of_bits.ensures i) opened))),
    )
