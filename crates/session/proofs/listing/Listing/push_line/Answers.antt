use Rattle.std.proofs.Common.{arith, codes}
use Rattle.session.specs.Listings.{contents}
use Rattle.session.proofs.Told.{comma_line_told, room, line_size}
use Rattle.session.proofs.listing.Listing.push_line.Goals as goal

pub push-requires-3 : goal.push-requires-3
push-requires-3 c = omega (
  arith,
  c.requires,
  line_size c.args.name.now c.args.first.now c.args.second.now,
  room (contents c.args.self.now) (contents c.push.new.self) c.args.name.now c.push.ensures.contents,
  room (contents c.push.new.self) (contents c.push-2.new.self) (codes ",") c.push-2.ensures.contents,
)

pub push-requires-4 : goal.push-requires-4
push-requires-4 c = omega (
  arith,
  c.requires,
  line_size c.args.name.now c.args.first.now c.args.second.now,
  room (contents c.args.self.now) (contents c.push.new.self) c.args.name.now c.push.ensures.contents,
  room (contents c.push.new.self) (contents c.push-2.new.self) (codes ",") c.push-2.ensures.contents,
  room (contents c.push-2.new.self) (contents c.push-3.new.self) c.args.first.now c.push-3.ensures.contents,
)

pub push-requires-5 : goal.push-requires-5
push-requires-5 c = omega (
  arith,
  c.requires,
  line_size c.args.name.now c.args.first.now c.args.second.now,
  room (contents c.args.self.now) (contents c.push.new.self) c.args.name.now c.push.ensures.contents,
  room (contents c.push.new.self) (contents c.push-2.new.self) (codes ",") c.push-2.ensures.contents,
  room (contents c.push-2.new.self) (contents c.push-3.new.self) c.args.first.now c.push-3.ensures.contents,
  room (contents c.push-3.new.self) (contents c.push-4.new.self) (codes ",") c.push-4.ensures.contents,
)

pub push-requires-6 : goal.push-requires-6
push-requires-6 c = omega (
  arith,
  c.requires,
  line_size c.args.name.now c.args.first.now c.args.second.now,
  room (contents c.args.self.now) (contents c.push.new.self) c.args.name.now c.push.ensures.contents,
  room (contents c.push.new.self) (contents c.push-2.new.self) (codes ",") c.push-2.ensures.contents,
  room (contents c.push-2.new.self) (contents c.push-3.new.self) c.args.first.now c.push-3.ensures.contents,
  room (contents c.push-3.new.self) (contents c.push-4.new.self) (codes ",") c.push-4.ensures.contents,
  room (contents c.push-4.new.self) (contents c.push-5.new.self) c.args.second.now c.push-5.ensures.contents,
)

pub returns-clause-contents : goal.returns-clause-contents
returns-clause-contents c =
    comma_line_told (contents c.args.self.now) (contents c.push.new.self) (contents c.push-2.new.self) (contents c.push-3.new.self) (contents c.push-4.new.self) (contents c.push-5.new.self) (contents c.push-6.new.self)
    c.args.name.now c.args.first.now c.args.second.now
    c.push.ensures.contents c.push-2.ensures.contents c.push-3.ensures.contents c.push-4.ensures.contents c.push-5.ensures.contents c.push-6.ensures.contents
