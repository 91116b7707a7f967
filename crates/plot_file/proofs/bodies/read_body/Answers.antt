-- `plot_file::bodies::read_body` meets its contract: the length byte is tested first, then that its bytes are there, and then they are a tile (`read_body_at`).
-- Assumes nothing.
use Rattle.plot_file.proofs.ReadLaws.{read_body_none, read_body_long, read_body_cut, read_body_at}
use Rattle.plot_file.proofs.StepLaws.{body_refused, body_not, body_made}
use Rattle.std.proofs.Common.{refl}
use Rattle.plot_file.proofs.bodies.read_body.Goals as goal

pub returns-in_default : goal.returns-in_default
returns-in_default c = body_refused _ _ _ refl (read_body_none _ c.in_default.len_below)

pub returns-then-k-gt32 : goal.returns-then-k-gt32
returns-then-k-gt32 c = body_refused _ _ _ refl (read_body_long _ c.in-len1-up.len_at_least _ c.from-k.ensures c.if-k-gt32.true)

pub returns-in_default-get : goal.returns-in_default-get
returns-in_default-get c =
    body_refused _ _ _ refl (read_body_cut _ c.in-len1-up.len_at_least _ c.from-k.ensures c.if-k-gt32.false c.in_default-get.ensures.lookup.0)

pub returns-in_err-tile : goal.returns-in_err-tile
returns-in_err-tile c =
    let part = c.in-Some.ensures.lookup.0 in
    let is = read_body_at c.args.bytes.now c.in-len1-up.len_at_least _ c.from-k.ensures c.if-k-gt32.false part.1 _ part.2 in
    body_refused _ _ _ c.from_residual.ensures.1 (body_not _ _ _ is _ c.new.ensures _ c.in_err-tile.was)

pub returns : goal.returns
returns c =
    let part = c.in-Some.ensures.lookup.0 in
    let is = read_body_at c.args.bytes.now c.in-len1-up.len_at_least _ c.from-k.ensures c.if-k-gt32.false part.1 _ part.2 in
    body_made _ _ _ is _ c.new.ensures _ c.in_ok-tile.was _ refl
