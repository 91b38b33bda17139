-- The antichain of a new label, among those of its side.
use Rattle.std.proofs.Common.{◌≡◌, ℕ, ◌<◌, List, [], length, get_or, set, refl, sym, ◌∙◌, ap, subst, arith}
use Rattle.std.proofs.lemmas.List.{get_or-map}
use Rattle.admission.proofs.AntichainOrder.{last_of-below}
use Rattle.admission.proofs.AntichainSets.{HasAntichains-set}
use Rattle.admission.proofs.Rows.{length-members, members-written}
use Rattle.admission.specs.Antichains.{IsAntichainAt, HasAntichains, Admits, members_of}
use Rattle.antichain.specs.Antichains.{Row}
use Rattle.antichain.specs.declared.member.Member.{Member}
use Rattle.bucket.specs.Histories.{bucket_of}
use Rattle.label_core.specs.CoreState.{labels_in}
use Rattle.label_core.specs.Machine.{Machine}
use Rattle.label_list.specs.Labels.{last_of}
use Rattle.strip_model.specs.LabelPath.{LabelPath}
use Rattle.strip_model.specs.Side.{face_of}
use Rattle.strip_model.specs.declared.end.End.{End}

-- each label path has its antichain
pub antichain_there : (m : Machine) (e : End) (path : List ℕ) (rows : List Row) → HasAntichains m e (members_of rows) → LabelPath (face_of m.instance m.cut e) path
    → last_of path < length rows
antichain_there m e path rows h is_path = omega (arith, h.size, length-members rows, last_of-below m.instance m.cut e path is_path)

-- an antichain as it is read at its directed strip
pub antichain_read : (rows : List Row) (x : ℕ) (row : Row) → x < length rows → row ≡ get_or rows x row → get_or (members_of rows) x [] ≡ row.members
antichain_read rows x row below is = get_or-map (λ (r : Row). r.members) rows x row [] below ∙ sym (ap (λ (r : Row). r.members) is)

pub IsAntichainAt-read : (m : Machine) (e : End) (path : List ℕ) (rows : List Row) (x : ℕ) (row : Row) → HasAntichains m e (members_of rows)
    → LabelPath (face_of m.instance m.cut e) path → x ≡ last_of path → row ≡ get_or rows x row
    → IsAntichainAt m e (last_of path) (length (labels_in m.state e (bucket_of path))) row.members
IsAntichainAt-read m e path rows x row h is_path last read =
    let there : last_of path < length rows = antichain_there m e path rows h is_path in
    let same : get_or (members_of rows) (last_of path) [] ≡ row.members =
    antichain_read rows (last_of path) row there (read ∙ ap (λ (z : ℕ). get_or rows z row) last) in
    subst (λ (ps : List Member). IsAntichainAt m e (last_of path) (length (labels_in m.state e (bucket_of path))) ps) same
    (h.antichain (last_of path) (omega (arith, there, length-members rows)))

-- the antichains with that one as it is then
pub HasAntichains-written : (m t : Machine) (e : End) (path : List ℕ) (rows : List Row) (x : ℕ) (row : Row) → HasAntichains m e (members_of rows)
    → LabelPath (face_of m.instance m.cut e) path → x ≡ last_of path → Admits m t e path
    → IsAntichainAt t e (last_of path) (length (labels_in t.state e (bucket_of path))) row.members → HasAntichains t e (members_of (set rows x row))
HasAntichains-written m t e path rows x row h is_path last admits antichain =
    subst (λ (antichains : List (List Member)). HasAntichains t e antichains) (sym (members-written rows x row))
    (subst (λ (z : ℕ). HasAntichains t e (set (members_of rows) z row.members)) (sym last)
    (HasAntichains-set m t e path (last_of path) (members_of rows) row.members admits refl
    (omega (arith, antichain_there m e path rows h is_path, length-members rows)) antichain h))
