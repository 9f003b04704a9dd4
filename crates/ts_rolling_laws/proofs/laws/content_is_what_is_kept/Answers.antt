use Rattle.ts_rolling_laws.proofs.RunLemmas.{content_is_kept}
use Rattle.ts_rolling_laws.proofs.laws.content_is_what_is_kept.Goals as goal

pub returns : goal.returns
returns c = content_is_kept (record {
  windows_rise = c.window_keys_rise.ensures;
  controls_rise = c.control_keys_rise.ensures;
  read = c.keys_are_read_exactly.ensures;
  share = c.sets_share_no_keys.ensures;
  found = c.series_are_found_by_keys.ensures;
  others = c.what_is_not_written_stays.ensures;
  sets = c.a_set_writes_its_own_series.ensures;
  shapes = c.a_series_keeps_its_shape.ensures;
})
