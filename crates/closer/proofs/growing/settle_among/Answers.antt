use Rattle.std.proofs.Common.{◌≡◌, arith}
use Rattle.label_list.specs.Labels.{last_of}
use Rattle.closer.proofs.Places.{label_last-is}
use Rattle.closer.proofs.AntichainPlaces.{antichain_there, IsAntichainAt-read, HasAntichains-written}
use Rattle.strip_model.specs.Side.{face_of}
use Rattle.closer.proofs.growing.settle_among.Goals as goal

pub index_mut-requires : goal.index_mut-requires
index_mut-requires c =
    omega (
      arith,
      antichain_there c.args.core.now c.args.label.end c.args.label.path.items c.args.antichains.now.items c.requires.antichains c.requires.can.is_path,
      label_last-is (face_of c.args.core.now.instance c.args.core.now.cut c.args.label.end) c.args.label c.requires.label,
      c.last.ensures,
      c.from.view_is,
      c.from-last.ensures,
      c.args.antichains.now.ok.0,
    )

pub admit-requires-clause-antichain : goal.admit-requires-clause-antichain
admit-requires-clause-antichain c =
    let last : c.from-last.result ≡ last_of c.args.label.path.items =
    omega (
      arith,
      label_last-is (face_of c.args.core.now.instance c.args.core.now.cut c.args.label.end) c.args.label c.requires.label,
      c.last.ensures,
      c.from.view_is,
      c.from-last.ensures,
    ) in
    IsAntichainAt-read c.args.core.now c.args.label.end c.args.label.path.items c.args.antichains.now.items c.from-last.result c.index_mut.result.now c.requires.antichains
    c.requires.can.is_path last c.index_mut.ensures.value

pub returns-clause-antichains : goal.returns-clause-antichains
returns-clause-antichains c =
    let last : c.from-last.result ≡ last_of c.args.label.path.items =
    omega (
      arith,
      label_last-is (face_of c.args.core.now.instance c.args.core.now.cut c.args.label.end) c.args.label c.requires.label,
      c.last.ensures,
      c.from.view_is,
      c.from-last.ensures,
    ) in
    HasAntichains-written c.args.core.now c.admit.new.core c.args.label.end c.args.label.path.items c.args.antichains.now.items c.from-last.result c.admit.new.antichain
    c.requires.antichains c.requires.can.is_path last c.in_ok-id.ensures.admits c.in_ok-id.ensures.antichain
