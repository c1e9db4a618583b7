use Rattle.std.proofs.Common.{List, ℕ, refl, subst, ◌∙◌}
use Rattle.store_c.specs.OnSession.{IsPutOf, accepted_put, answered_put, uncopied_put}
use Rattle.store_c.proofs.Puts.{accepted}
use Rattle.store_c.proofs.buffers.put_buffer.Goals as goal

pub returns-in-Ok-from_vec-clause-put : goal.returns-in-Ok-from_vec-clause-put
returns-in-Ok-from_vec-clause-put c =
    let v = c.args.session.now in
    let is = c.in-Ok in
    let put = c.put_blob in
    accepted v is.arguments.0 c.args.name.now c.args.bytes.items c.args.data_fragments is.arguments.1 put.result c.args.version.now put.new.version put.new.session is.ensures.0 is.ensures.1 is.ensures.2
    (subst (λ (b : List ℕ). IsPutOf v is.arguments.0 is.arguments.1 b put.result c.args.version.now put.new.version put.new.session) (c.of-unsealed.ensures ∙ c.in-Ok-from_vec.ensures.ok) (answered_put put.ensures.put))

pub returns-in-Err-from_vec-clause-put : goal.returns-in-Err-from_vec-clause-put
returns-in-Err-from_vec-clause-put c = let is = c.in-Ok in accepted_put is.arguments.1 is.ensures.0 is.ensures.2 (uncopied_put refl refl refl)
