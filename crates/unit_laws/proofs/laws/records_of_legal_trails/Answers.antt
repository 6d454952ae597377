use Rattle.unit_laws.proofs.TrailRows as row
use Rattle.unit_laws.proofs.laws.records_of_legal_trails.Goals as goal

pub returns-clause-conflicts : goal.returns-clause-conflicts
returns-clause-conflicts c = row.conflict_records

pub returns-clause-first : goal.returns-clause-first
returns-clause-first c = row.reports_first

pub returns-clause-later : goal.returns-clause-later
returns-clause-later c = row.reports_later

pub returns-clause-both : goal.returns-clause-both
returns-clause-both c = row.reports_and_conflicts

pub returns-clause-invalid : goal.returns-clause-invalid
returns-clause-invalid c = row.invalid_records

pub returns-clause-mode : goal.returns-clause-mode
returns-clause-mode c = row.mode_records

pub returns-clause-room : goal.returns-clause-room
returns-clause-room c = row.room_for_senders

pub returns-clause-volumes : goal.returns-clause-volumes
returns-clause-volumes c = row.medium_records

pub returns-clause-trails : goal.returns-clause-trails
returns-clause-trails c = row.trails
