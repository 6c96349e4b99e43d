-- The demo's locations.geojson is read as both zones, however its text is scanned by the grammar of JSON.
use Rattle.std.proofs.Common.{◌≡◌, ◌≤◌, ◌∙◌, ℕ, suc, true, List, [], ◌∷◌, arith, ap, drop, map, refl, sym}
use Rattle.std.specs.Prelude.{codes}
use Rattle.std.specs.Str.{is_utf8}
use Rattle.std.proofs.lemmas.List.{take-append-drop}
use Rattle.feed_meaning.specs.FeedFaults.{Zones}
use Rattle.feed_meaning.specs.Locations.{Scan, depth_fault, scanned, syntax_fault, without_mark, zones_of, zones_of_scan, zones_of_text}
use Rattle.feed_meaning.proofs.OnLiterals.{feed_on_literals}
use Rattle.geo_json.specs.Scans.{IsScanOf, json_of}
use Rattle.json_text.specs.Grammar.{TextsAreUnambiguous, depth}
use Rattle.json_text.specs.Refusal.{greatest_depth}
use Rattle.feed_gen.specs.FeedTexts.{locations_text}
use Rattle.feed_gen.proofs.DemoTree.{demo_tree, demo_tree-spelled}
use Rattle.feed_gen.proofs.FeedFolder.{ReadsZones}

flat : depth demo_tree.value ≤ greatest_depth
flat = omega arith

-- every scan gives the values of the tree
one-scan : TextsAreUnambiguous → (scan : Scan) → IsScanOf locations_text scan → scan ≡ scanned (json_of demo_tree)
one-scan alike (syntax_fault at) fault = absurd (fault.fault (demo_tree, demo_tree-spelled))
one-scan alike (depth_fault at) deep =
    absurd (deep.deep (drop (suc at) locations_text, (demo_tree, demo_tree-spelled ∙ sym (take-append-drop (suc at) locations_text), flat)))
one-scan alike (scanned json) is =
    ap scanned (is.values ∙ ap json_of (alike is.tree demo_tree (is.spelled ∙ sym demo_tree-spelled)))

unmarked : without_mark locations_text ≡ locations_text
unfolding locations_text
unmarked = refl

is-text : is_utf8 locations_text ≡ true
unfolding feed_on_literals locations_text
is-text = refl

no-faults : (zones_of_scan locations_text (scanned (json_of demo_tree))).faults ≡ []
unfolding feed_on_literals locations_text
no-faults = refl

both-ids : map (λ f. f.id) (zones_of_scan locations_text (scanned (json_of demo_tree))).features ≡ codes "zA" ∷ codes "zB" ∷ []
unfolding feed_on_literals locations_text
both-ids = refl

-- the text is read as both zones
pub reads_zones : TextsAreUnambiguous → (scan : List ℕ → Scan) → IsScanOf locations_text (scan locations_text) → ReadsZones (zones_of scan)
reads_zones alike scan is =
    let read : zones_of scan locations_text ≡ zones_of_scan locations_text (scanned (json_of demo_tree)) =
    ap (zones_of_text scan) unmarked ∙ rw is-text (ap (zones_of_scan locations_text) (one-scan alike (scan locations_text) is)) in
    record {
      faults = ap (λ (z : Zones). z.faults) read ∙ no-faults;
      ids = ap (λ (z : Zones). map (λ f. f.id) z.features) read ∙ both-ids;
    }
