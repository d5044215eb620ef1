mod ListRuns
