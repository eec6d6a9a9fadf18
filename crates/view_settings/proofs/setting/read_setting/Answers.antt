use Rattle.view_settings.proofs.setting.read_setting.Goals as goal

pub returns-clause-setting : goal.returns-clause-setting
returns-clause-setting c = record {
  kind = c.in_ok-name-2.kind;
  taken = rw c.in_ok-name-2.ensures.ok_part at c.read_known.ensures.kind;
  value = c.in_ok-value.ensures.within;
}
