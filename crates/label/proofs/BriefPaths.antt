-- What a brief says of its path.
use Rattle.std.proofs.Common.{◌<◌, length}
use Rattle.label.proofs.Growing.{last_in_time, Exist-same}
use Rattle.label.specs.Briefs.{IsBrief, IsBriefOf}
use Rattle.label.specs.Labels.{IsLabelOf, Exist}
use Rattle.label.specs.declared.briefs.Brief.{Brief}
use Rattle.label.specs.declared.label.Label.{Label}
use Rattle.strip_model.specs.Directed.{strip_of}
use Rattle.strip_model.specs.Side.{Face}

-- the brief of a label is one of its side
pub IsBrief-label : (S : Face) (l : Label) (b : Brief) → IsLabelOf S l → IsBriefOf S b l.path.items → IsBrief S b
IsBrief-label S l b h is = (l.path.items, h.path, is)

-- its last directed strip exists
pub brief_last : (S : Face) (b : Brief) → IsBrief S b → strip_of b.last < length S.instance.strips
brief_last S b h = (last_in_time S.instance h.0 b.start b.last h.1.in_time.exist h.1.in_time.fits h.2.at).0

-- and so do its directed strips
pub brief_exist : (S : Face) (b : Brief) → IsBrief S b → Exist S.instance b.visited
brief_exist S b h = Exist-same S.instance b.visited h.0 h.2.visited h.1.in_time.exist
