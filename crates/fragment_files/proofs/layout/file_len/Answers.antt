use Rattle.std.proofs.Common.{◌≡◌, ◌+◌, ◌*◌, ◌-◌, ◌^◌, ◌≤◌, min, subst, arith}
use Rattle.fragment_files.specs.Layout.{stripe_bytes}
use Rattle.fragment_files.proofs.Stripes.{same_count, short_records, small_stripe}
use Rattle.fragment_files.proofs.layout.file_len.Goals as goal

pub returns : goal.returns
returns c n has =
    let h = c.args.header.now in
    let w = h.width in
    let counted = c.stripe_count.ensures in
    let same : c.stripe_count.result ≡ n = same_count (stripe_bytes h) c.stripe_count.result n h.len counted.enough counted.least has.enough has.least in
    let wide : 64 ≤ w = omega (arith, h.not_empty, h.in_units) in
    let short : n * (w + 32) ≤ n * stripe_bytes h = short_records h.code w n wide in
    let small : stripe_bytes h ≤ 12582912 = small_stripe h.code w h.not_wide in
    let begins : c.record_at.result ≡ min (n * (w + 32) + 4096) (2 ^ 64 - 1) = subst (λ m. c.record_at.result ≡ min (m * (w + 32) + 4096) (2 ^ 64 - 1)) same c.record_at.ensures in
    omega (arith, begins, c.saturating_add.ensures, short, small, has.least, h.not_long)
