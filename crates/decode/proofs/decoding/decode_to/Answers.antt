use Rattle.std.proofs.Common.{sym, arith}
use Rattle.std.proofs.lemmas.Bool.{true≢false}
use Rattle.decode.proofs.Chosen.{decodable}
use Rattle.decode.proofs.decoding.decode_to.Goals as goal

pub decode_by_syndromes-requires-clause-decodable : goal.decode_by_syndromes-requires-clause-decodable
decode_by_syndromes-requires-clause-decodable c = decodable c.args.left.now.code c.args.left.now.fragments c.args.chosen c.requires.absent (λ h. true≢false (sym (c.if-has_open.ensures.1 h)))

pub returns-else-are_syndromes_faster-clause-first : goal.returns-else-are_syndromes_faster-clause-first
returns-else-are_syndromes_faster-clause-first c = λ _. c.rebuild_chosen.ensures (decodable c.args.left.now.code c.args.left.now.fragments c.args.chosen c.requires.absent (λ h. true≢false (sym (c.if-has_open.ensures.1 h))) 0 (omega arith))

pub returns-else-are_syndromes_faster-clause-second : goal.returns-else-are_syndromes_faster-clause-second
returns-else-are_syndromes_faster-clause-second c = λ _. c.rebuild_chosen-else-are_syndromes_faster.ensures (decodable c.args.left.now.code c.args.left.now.fragments c.args.chosen c.requires.absent (λ h. true≢false (sym (c.if-has_open.ensures.1 h))) 1 (omega arith))

pub returns-else-are_syndromes_faster-clause-third : goal.returns-else-are_syndromes_faster-clause-third
returns-else-are_syndromes_faster-clause-third c = λ _. c.rebuild_chosen-else-are_syndromes_faster-2.ensures (decodable c.args.left.now.code c.args.left.now.fragments c.args.chosen c.requires.absent (λ h. true≢false (sym (c.if-has_open.ensures.1 h))) 2 (omega arith))

pub returns-else-are_syndromes_faster-clause-fourth : goal.returns-else-are_syndromes_faster-clause-fourth
returns-else-are_syndromes_faster-clause-fourth c = λ _. c.rebuild_chosen-else-are_syndromes_faster-3.ensures (decodable c.args.left.now.code c.args.left.now.fragments c.args.chosen c.requires.absent (λ h. true≢false (sym (c.if-has_open.ensures.1 h))) 3 (omega arith))
